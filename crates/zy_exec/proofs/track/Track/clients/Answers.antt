use Rattle.std.proofs.Common.{rules, ◌≡◌, ◌∙◌, ap, sym, length}
use Rattle.std.specs.Vec.{vec_len}
use Rattle.zy_exec.specs.Kept.{Kept, now_of}
use Rattle.zy_exec.specs.Trail.{base_of}
use Rattle.zy_exec.proofs.ReplayLemmas.{length-known-along}
use Rattle.zy_exec.proofs.track.Track.clients.Goals as goal

pub returns-clause-all : goal.returns-clause-all
returns-clause-all g c =
    let x = c.self.inside in
    let M = g.M.Machine in
    let held : vec_len x.base_known ≡ length x.base_known.items = search rules in
    c.len.ensures ∙ held ∙ sym (length-known-along M.rules (base_of x.spine (M.trail x.machine) (M.state x.machine) x.base_known.items) x.spine.entries)
    ∙ ap (λ (k : Kept _). length (now_of M.rules k).known) c.self.view_is
