use Rattle.std.proofs.Common.{◌≡◌, ◌+◌, ◌<◌, ℕ, length, ◌∙◌, ap}
use Rattle.zy_exec.specs.Kept.{settled}
use Rattle.zy_exec.proofs.ShotLemmas.{kept_settled}
use Rattle.zy_exec.proofs.exec.Exec.settle_one.Goals as goal

pub invariant_of-self : goal.invariant_of-self
invariant_of-self g c =
    let x = c.self.inside in
    let M = g.M.Machine in
    let some : 0 < length x.track.entries = rw (← c.self.view_is) at c.requires.some in
    let next : c.args.next.0 ≡ x.track.base.place + 1 = rw (← c.self.view_is) at c.requires.next in
    kept_settled M.rules x.track c.settle_one.new.self x.shots.items c.pop_front.new.self.items c.self.invariant some
    (c.settle_one.ensures ∙ ap (λ (n : ℕ). settled M.rules n x.track) next) c.pop_front.ensures.rest
