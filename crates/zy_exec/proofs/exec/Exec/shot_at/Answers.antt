use Rattle.std.proofs.Common.{◌-◌, ◌≤◌, ℕ, get_or, None, ◌∙◌, ap}
use Rattle.zy_exec.specs.Kept.{Kept}
use Rattle.zy_exec.specs.Shots.{shot_in}
use Rattle.zy_exec.proofs.ShotLemmas.{kept_at}
use Rattle.zy_exec.proofs.exec.Exec.shot_at.Goals as goal

pub returns-clause-shot : goal.returns-clause-shot
returns-clause-shot g c =
    let x = c.self.inside in
    let M = g.M.Machine in
    let place = c.args.place.0 in
    let above : x.track.base.place ≤ place = rw c.base.ensures at c.if-place-base.false in
    c.shot_after.ensures
    ∙ ap (λ (b : ℕ). get_or x.shots.items (place - b) None) c.base-2.ensures
    ∙ kept_at M.rules x.track x.shots.items place c.self.invariant above
    ∙ ap (λ (k : Kept _). shot_in M.rules k place) c.self.view_is
