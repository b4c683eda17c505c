use Rattle.std.proofs.Common.{ℕ, List, subst, ◌∙◌}
use Rattle.zy_node.specs.Told.{Sends, SendsFront}
use Rattle.zy_node.specs.Turn.{parcels_of, parcels_to}
use Rattle.zy_node.proofs.SendLemmas.{nothing_sent, on_err}
use Rattle.zy_node.proofs.sending.send_frame.Goals as goal

pub returns-in_err-datagrams-clause-err : goal.returns-in_err-datagrams-clause-err
returns-in_err-datagrams-clause-err g c =
    let mail = g.L.Link.mail c.args.link.now in
    on_err c.from_residual.result (SendsFront (parcels_of (c.args.to, c.args.frame.now)) mail mail) (nothing_sent (parcels_of (c.args.to, c.args.frame.now)) mail)

pub returns-in-Sent-clause-ok : goal.returns-in-Sent-clause-ok
returns-in-Sent-clause-ok g c =
    subst (λ (datagrams : List (List ℕ)). Sends (parcels_to c.args.to datagrams) (g.L.Link.mail c.args.link.now) (g.L.Link.mail c.send_pieces.new.link))
    (c.deref.ensures.value ∙ c.in_ok-datagrams.ensures) c.in-Sent.ensures.sent

pub returns-clause-err : goal.returns-clause-err
returns-clause-err g c =
    subst (λ (datagrams : List (List ℕ)). SendsFront (parcels_to c.args.to datagrams) (g.L.Link.mail c.args.link.now) (g.L.Link.mail c.send_pieces.new.link))
    (c.deref.ensures.value ∙ c.in_ok-datagrams.ensures) c.in-Failed.ensures.sent
