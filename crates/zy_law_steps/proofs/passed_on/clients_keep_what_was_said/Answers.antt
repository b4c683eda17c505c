use Rattle.std.proofs.Common.{sym, subst}
use Rattle.zy_base.specs.declared.ids.Party.{Party}
use Rattle.zy_law_steps.proofs.PartsBack.{verified_back}
use Rattle.zy_law_steps.proofs.Passing.{empty_slots}
use Rattle.zy_law_steps.proofs.PassingClient.{asks, steps}
use Rattle.zy_law_steps.proofs.PassingTexts.{asks_alone}
use Rattle.zy_law_steps.proofs.passed_on.clients_keep_what_was_said.Goals as goal
use Rattle.zy_law_steps.specs.Signs.{OfAsks, OfResponse, OfTextsAlone}
use Rattle.zy_table.specs.ClientRows.{ask}

pub returns : goal.returns
returns c =
    record {
      start = λ p me counts keys sealer stamp me_is low. (tt, empty_slots (OfResponse (OfTextsAlone p)) counts.n, (me_is, low));
      keeps_asked = λ p s op kept said. (asks (OfTextsAlone p) s kept op (subst (λ (me : Party). OfAsks (OfTextsAlone p) me (ask s op).said) (sym kept.2.0) (asks_alone p s.me (ask s op).said said))).0;
      keeps = λ p s event kept heard. (steps (OfTextsAlone p) s kept event (verified_back p s.keys event heard)).0;
    }
