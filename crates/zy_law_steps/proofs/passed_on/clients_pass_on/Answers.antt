use Rattle.std.proofs.Common.{sym, subst}
use Rattle.zy_base.specs.declared.ids.Party.{Party}
use Rattle.zy_law_steps.proofs.Passing.{empty_slots}
use Rattle.zy_law_steps.proofs.PassingClient.{asks, steps}
use Rattle.zy_law_steps.proofs.PartsBack.{heard_verified}
use Rattle.zy_law_steps.proofs.PassingParts.{sent_as}
use Rattle.zy_law_steps.proofs.PassingTexts.{ask_fits, asks_pass}
use Rattle.zy_law_steps.proofs.passed_on.clients_pass_on.Goals as goal
use Rattle.zy_law_steps.specs.Signs.{OfAsks, OfResponse, OfTexts}
use Rattle.zy_table.specs.ClientRows.{ask}

pub returns : goal.returns
returns c =
    record {
      start = λ p me counts keys sealer stamp me_is low. (tt, empty_slots (OfResponse (OfTexts p)) counts.n, (me_is, low));
      keeps_asked = λ p s op small short kept said. (asks (OfTexts p) s kept op (subst (λ (me : Party). OfAsks (OfTexts p) me (ask s op).said) (sym kept.2.0) (asks_pass p s.me small (ask s op).said (ask_fits s op kept.2.1 short) said))).0;
      sends_asked = λ p s op small short kept said to.
          sent_as p to (ask s op).sent (asks (OfTexts p) s kept op (subst (λ (me : Party). OfAsks (OfTexts p) me (ask s op).said) (sym kept.2.0) (asks_pass p s.me small (ask s op).said (ask_fits s op kept.2.1 short) said))).1;
      keeps = λ p s event kept heard. (steps (OfTexts p) s kept event (heard_verified (OfTexts p) s.keys event heard)).0;
      sends = λ p s event kept heard to. sent_as p to _ (steps (OfTexts p) s kept event (heard_verified (OfTexts p) s.keys event heard)).1;
    }
