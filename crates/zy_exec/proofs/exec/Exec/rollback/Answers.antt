use Rattle.std.proofs.Common.{◌≡◌, ◌≤◌, ◌+◌, ◌-◌, ℕ, length, take, ◌∙◌, ap, arith}
use Rattle.zy_exec.specs.Kept.{Kept, last_place}
use Rattle.zy_exec.proofs.ShotLemmas.{kept_back, length-shots}
use Rattle.zy_exec.proofs.exec.Exec.rollback.Goals as goal

pub invariant_of-self : goal.invariant_of-self
invariant_of-self g c =
    let x = c.self.inside in
    let M = g.M.Machine in
    let base : c.base.result.0 ≡ x.track.base.place = c.base.ensures ∙ ap (λ (k : Kept _). k.base.place) c.rollback.ensures.after in
    kept_back M.rules x.track c.rollback.new.self c.args.place.0 x.shots.items c.truncate.new.self.items c.self.invariant c.rollback.ensures.after
    (c.truncate.ensures.items ∙ ap (λ (b : ℕ). take (c.args.place.0 - b + 1) x.shots.items) base)

pub overflow_add-above : goal.overflow_add-above
overflow_add-above g c =
    let x = c.self.inside in
    let k = x.track in
    let many = ap length c.self.invariant.shots_are ∙ length-shots g.M.Machine.rules k.interval k.base k.entries in
    let below : c.args.place.0 ≤ last_place k = rw (← c.self.view_is) at c.requires.below in
    let base : c.base.result.0 ≡ k.base.place = c.base.ensures ∙ ap (λ (i : Kept _). i.base.place) c.rollback.ensures.after in
    omega (arith, many, below, base, x.shots.ok.0, x.shots.small.0, x.shots.small.1)
