use Rattle.std.proofs.Common.{ℕ, List, subst, arith}
use Rattle.zy_node.specs.Keeping.{parcels_owed}
use Rattle.zy_node.specs.Told.{SendsFront}
use Rattle.zy_node.specs.Turn.{parcels_to}
use Rattle.zy_node.proofs.SendLemmas.{those_before}
use Rattle.zy_node.proofs.owing.send_owed.Goals as goal

pub returns-in-Failed-clause-sent : goal.returns-in-Failed-clause-sent
returns-in-Failed-clause-sent g c =
    let one = c.one-item.result in
    let between = g.L.Link.mail c.loop-one.link in
    let after = g.L.Link.mail c.send_pieces.new.link in
    those_before parcels_owed c.args.owed.now c.loop-one.one-index one (g.L.Link.mail c.args.link.now) between after (omega arith) c.one-item.is c.loop-one.invariant.sent
    (subst (λ (datagrams : List (List ℕ)). SendsFront (parcels_to one.to datagrams) between after) c.as_slice.ensures.value c.in-Failed.ensures.sent)
