use Rattle.std.proofs.Common.{List}
use Rattle.std.specs.List.{list_any}
use Rattle.zy_table.specs.declared.deeds.Act.{Act}
use Rattle.zy_table.specs.Beginning.{confirms}
use Rattle.zy_replica.proofs.TimerLemmas.{asked_acts}
use Rattle.std.proofs.Common.{◌∙◌, ap}
use Rattle.zy_base.specs.declared.step.Answer.TheVariants.{Taken}
use Rattle.zy_table.specs.Deeds.{Going, begin}
use Rattle.zy_table.specs.Hates.{ask_for_hole}
use Rattle.zy_table.specs.Beginning.{finished}
use Rattle.zy_table.specs.Leaving.{goes}
use Rattle.zy_replica.proofs.timers.idle_and_ask.Goals as goal

pub returns : goal.returns
returns g c =
    let asked = c.in_ok-ask_for_hole.ensures ∙ ap (λ (x : Going g.row.M-State.Denot). ask_for_hole x.state.views.mode x.state.hole x) c.begin.ensures in
    c.taken.ensures c.args.core ∙ ap (λ (x : Going g.row.M-State.Denot). finished g.M.Machine.rules c.args.core (goes Taken x)) asked

pub taken-requires : goal.taken-requires
taken-requires g c =
    let asked = c.in_ok-ask_for_hole.ensures ∙ ap (λ (x : Going g.row.M-State.Denot). ask_for_hole x.state.views.mode x.state.hole x) c.begin.ensures in
    ap (λ (x : Going g.row.M-State.Denot). list_any confirms x.deeds.acts) asked ∙ ap (λ (acts : List Act). list_any confirms acts) (asked_acts c.args.core.views.mode c.args.core.hole (begin c.args.core))
