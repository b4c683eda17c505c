use Rattle.std.proofs.Common.{ℕ, List, refl, subst, ◌∙◌, arith}
use Rattle.std.proofs.lemmas.List.{take_all}
use Rattle.zy_base.specs.declared.ids.Party.{Party}
use Rattle.zy_node.specs.Told.{Sends, SendsFront}
use Rattle.zy_node.specs.Turn.{all_parcels, parcels_of}
use Rattle.zy_node.proofs.SendLemmas.{Sends-nil, on_err, one_more, those_before}
use Rattle.zy_node.proofs.sending.send_all.Goals as goal

pub loop-to-init : goal.loop-to-init
loop-to-init g c = record { sent = Sends-nil (g.L.Link.mail c.args.link.now); receives = refl; binding = refl; faults = refl }

pub returns-in_err-send_frame-clause-err : goal.returns-in_err-send_frame-clause-err
returns-in_err-send_frame-clause-err g c =
    let one = c.loop-to-item.result in
    let first = g.L.Link.mail c.args.link.now in
    let before = g.L.Link.mail c.loop-to.link in
    let after = g.L.Link.mail c.send_frame.new.link in
    let front = subst (λ (bytes : List ℕ). SendsFront (parcels_of (one.0, bytes)) before after) c.as_slice.ensures.value c.in_err-send_frame.ensures.err in
    on_err c.from_residual.result (SendsFront (all_parcels c.args.out.now) first after)
    (those_before parcels_of c.args.out.now c.loop-to.to-index one first before after (omega arith) c.loop-to-item.is c.loop-to.invariant.sent front)

pub loop-to-preserved : goal.loop-to-preserved
loop-to-preserved g c =
    let one = c.loop-to-item.result in
    let first = g.L.Link.mail c.args.link.now in
    let before = g.L.Link.mail c.loop-to.link in
    let after = g.L.Link.mail c.send_frame.new.link in
    let sent = subst (λ (bytes : List ℕ). Sends (parcels_of (one.0, bytes)) before after) c.as_slice.ensures.value c.in_ok-send_frame.ensures.ok in
    record {
      sent = one_more parcels_of c.args.out.now c.loop-to.to-index one first before after (omega arith) c.loop-to-item.is c.loop-to.invariant.sent sent;
      receives = c.in_ok-send_frame.ensures.receives ∙ c.loop-to.invariant.receives;
      binding = c.in_ok-send_frame.ensures.binding ∙ c.loop-to.invariant.binding;
      faults = c.in_ok-send_frame.ensures.count ∙ c.loop-to.invariant.faults;
    }

pub returns-clause-ok : goal.returns-clause-ok
returns-clause-ok g c =
    subst (λ (out : List (Party × List ℕ)). Sends (all_parcels out) (g.L.Link.mail c.args.link.now) (g.L.Link.mail c.loop-to.link))
    (take_all c.loop-to.to-index c.args.out.now (omega arith)) c.loop-to.invariant.sent
