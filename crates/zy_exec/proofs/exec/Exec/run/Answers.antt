use Rattle.std.proofs.Common.{◌++◌, ◌∷◌, [], List, length, ◌∙◌, ap, arith}
use Rattle.std.specs.Prelude.{Option}
use Rattle.std.proofs.lemmas.List.{length-append}
use Rattle.zy_exec.specs.declared.shot.Shot.{Shot}
use Rattle.zy_exec.specs.Kept.{Kept}
use Rattle.zy_exec.proofs.ShotLemmas.{kept_run}
use Rattle.zy_exec.proofs.exec.Exec.run.Goals as goal

pub unrun_last-requires : goal.unrun_last-requires
unrun_last-requires g c =
    omega (arith, ap (λ (k : Kept _). length k.entries) c.in_ok-reply.ensures.after, length-append c.self.inside.track.entries (c.args.e ∷ []))

pub invariant_of-self-in-Ok : goal.invariant_of-self-in-Ok
invariant_of-self-in-Ok g c =
    let x = c.self.inside in
    let M = g.M.Machine in
    kept_run M.rules x.track c.run.new.self c.args.e c.in-Ok.shot x.shots.items c.push_back_reserved.new.self.items c.self.invariant c.in_ok-reply.ensures.after c.in-Ok.ensures.shot c.in-Ok.ensures.short
    (c.push_back_reserved.ensures.items ∙ ap (λ (ss : List (Option Shot)). ss ++ c.in-Ok.shot ∷ []) c.in_default.ensures.items)

pub invariant_of-self-in-Err-shot : goal.invariant_of-self-in-Err-shot
invariant_of-self-in-Err-shot g c =
    let back = c.unrun_last.ensures c.self.inside.track c.args.e c.in_ok-reply.ensures.after in
    rw (back.0, c.in_default.ensures.items) c.self.invariant
