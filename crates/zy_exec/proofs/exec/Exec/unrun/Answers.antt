use Rattle.std.proofs.Common.{rules, ◌≡◌, length}
use Rattle.std.specs.VecDeque.{deque_len}
use Rattle.zy_exec.proofs.ShotLemmas.{kept_unrun}
use Rattle.zy_exec.proofs.exec.Exec.unrun.Goals as goal

pub invariant_of-self-in-Some : goal.invariant_of-self-in-Some
invariant_of-self-in-Some g c =
    let x = c.self.inside in
    let M = g.M.Machine in
    let held : deque_len x.shots ≡ length x.shots.items = search rules in
    kept_unrun M.rules x.track c.unrun.new.self c.in-Some.e x.shots.items c.pop_back.new.self.items (deque_len x.shots) c.self.invariant c.in-Some.ensures.some held c.pop_back.ensures.rest
