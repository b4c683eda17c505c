use Rattle.std.proofs.Common.{◌≡◌, length, ◌∙◌}
use Rattle.zy_check.proofs.TallyLemmas.{tallied-only}
use Rattle.zy_check.proofs.tally.Tally.keep_equal.Goals as goal

pub invariant_of-self : goal.invariant_of-self
invariant_of-self g c =
    let list = c.keep_equal.new.list in
    let len : c.len.result ≡ length list.items = c.len.ensures ∙ list.ok.0 in
    rw (len, c.keep_equal.ensures) (tallied-only g.S.PartialEq.eq c.args.stmt.now c.self.inside.list.items)
