use Rattle.std.proofs.Common.{ℕ, [], ◌∷◌, List, refl, subst, ◌∙◌, arith}
use Rattle.std.proofs.lemmas.List.{take_all}
use Rattle.zy_node.specs.Told.{Sends}
use Rattle.zy_node.specs.Turn.{parcels_to}
use Rattle.zy_node.proofs.SendLemmas.{Sends-nil, datagrams_before, one_datagram_more}
use Rattle.zy_node.proofs.sending.send_pieces.Goals as goal

pub loop-datagram-init : goal.loop-datagram-init
loop-datagram-init g c = record { sent = Sends-nil (g.L.Link.mail c.args.link.now); receives = refl; binding = refl; faults = refl }

pub returns-in-Failed-clause-sent : goal.returns-in-Failed-clause-sent
returns-in-Failed-clause-sent g c =
    datagrams_before c.args.to c.args.datagrams.now c.loop-datagram.datagram-index
    (g.L.Link.mail c.args.link.now) (g.L.Link.mail c.loop-datagram.link) (g.L.Link.mail c.send.new.self)
    c.loop-datagram.invariant.sent c.in-Failed.ensures.mail

pub loop-datagram-preserved : goal.loop-datagram-preserved
loop-datagram-preserved g c =
    let before = g.L.Link.mail c.loop-datagram.link in
    let after = g.L.Link.mail c.send.new.self in
    let sent = subst (λ (bytes : List ℕ). Sends (record { to = c.args.to; bytes = bytes } ∷ []) before after) c.as_slice.ensures.value c.in-Sent.ensures.mail in
    record {
      sent = one_datagram_more c.args.to c.args.datagrams.now c.loop-datagram.datagram-index c.datagram-item.result
          (g.L.Link.mail c.args.link.now) before after (omega arith) c.datagram-item.is c.loop-datagram.invariant.sent sent;
      receives = c.in-Sent.ensures.receives ∙ c.loop-datagram.invariant.receives;
      binding = c.in-Sent.ensures.binding ∙ c.loop-datagram.invariant.binding;
      faults = c.in-Sent.ensures.count ∙ c.loop-datagram.invariant.faults;
    }

pub returns-clause-sent : goal.returns-clause-sent
returns-clause-sent g c =
    subst (λ (datagrams : List (List ℕ)). Sends (parcels_to c.args.to datagrams) (g.L.Link.mail c.args.link.now) (g.L.Link.mail c.loop-datagram.link))
    (take_all c.loop-datagram.datagram-index c.args.datagrams.now (omega arith)) c.loop-datagram.invariant.sent
