use Rattle.std.proofs.Common.{◌<◌, ◌*◌, List, length, All, IfSome, sym, ap, ◌∙◌, subst, arith}
use Rattle.std.specs.Prelude.{option_copied}
use Rattle.zy_choose.specs.Answer.{IsAnswer}
use Rattle.zy_choose.specs.Reports.{PlainReport}
use Rattle.zy_choose.specs.Rules.{Fits}
use Rattle.zy_change.specs.Ahead.{reports_ahead}
use Rattle.zy_change.specs.Fit.{IsFit}
use Rattle.zy_change.specs.Views.{Views}
use Rattle.zy_change.proofs.AheadLemmas.{reports_many}
use Rattle.zy_change.proofs.ChoosingLemmas.{chosen, within_reports}
use Rattle.zy_change.proofs.FitLemmas.{all_began, all_spec, all_well}
use Rattle.zy_change.proofs.machine.ViewMachine.choice.Goals as goal
use Rattle.zy_change.proofs.machine.ViewMachine.choice.Goals.{After-drop-reports-inside}

pub choose-requires-clause-many : goal.choose-requires-clause-many
choose-requires-clause-many c =
    ap length (c.as_slice.ensures.value ∙ c.in_ok-reports.ensures)
    ∙ reports_many c.args.self.now c.args.view (option_copied c.args.heard) (option_copied c.args.own) c.requires.enough
    ∙ ap (λ (v : Views). v.counts.change) (sym c.self.view_is)

pub choose-requires-clause-began : goal.choose-requires-clause-began
choose-requires-clause-began c =
    subst (λ (l : List PlainReport). All (λ r. Fits r.stretch r.began) l) (sym (c.as_slice.ensures.value ∙ c.in_ok-reports.ensures))
    (all_began c.args.self.now c.args.view (option_copied c.args.heard) (option_copied c.args.own) (subst IsFit c.self.view_is c.self.invariant) c.requires.heard c.requires.own)

pub choose-requires-clause-spec : goal.choose-requires-clause-spec
choose-requires-clause-spec c =
    subst (λ (l : List PlainReport). All (λ r. IfSome r.spec (Fits r.stretch)) l) (sym (c.as_slice.ensures.value ∙ c.in_ok-reports.ensures))
    (all_spec c.args.self.now c.args.view (option_copied c.args.heard) (option_copied c.args.own) (subst IsFit c.self.view_is c.self.invariant) c.requires.heard c.requires.own)

answers : (c : After-drop-reports-inside) → IsAnswer c.args.self.now.counts.agree (reports_ahead c.args.self.now c.args.view (option_copied c.args.heard) (option_copied c.args.own)) c.choose.result
answers c =
    let reports = reports_ahead c.args.self.now c.args.view (option_copied c.args.heard) (option_copied c.args.own) in
    subst (λ (u : Views). IsAnswer u.counts.agree reports c.choose.result) c.self.view_is
    (subst (λ (l : List PlainReport). IsAnswer c.self.inside.counts.agree l c.choose.result) (c.as_slice.ensures.value ∙ c.in_ok-reports.ensures) c.choose.ensures)

pub returns-clause-choice : goal.returns-clause-choice
returns-clause-choice c =
    let v = c.args.self.now in
    let fit = subst IsFit c.self.view_is c.self.invariant in
    let reports = reports_ahead v c.args.view (option_copied c.args.heard) (option_copied c.args.own) in
    let many = reports_many v c.args.view (option_copied c.args.heard) (option_copied c.args.own) c.requires.enough in
    let sound = v.counts.sound in
    let some : 0 < v.counts.agree = omega (arith, sound.true_agreement) in
    let there : 0 < length reports = omega (arith, many, sound.local_and_change, sound.local_in_reach) in
    let few : length reports < 2 * v.counts.agree = omega (arith, many, sound.two_agreements) in
    chosen v.counts.agree reports some there
    (all_began v c.args.view (option_copied c.args.heard) (option_copied c.args.own) fit c.requires.heard c.requires.own)
    (all_spec v c.args.view (option_copied c.args.heard) (option_copied c.args.own) fit c.requires.heard c.requires.own)
    c.choose.result few
    (answers c)

pub returns-clause-in_range : goal.returns-clause-in_range
returns-clause-in_range c =
    within_reports c.args.self.now.interval c.args.self.now.counts.agree _
    (all_well c.args.self.now c.args.view (option_copied c.args.heard) (option_copied c.args.own) (subst IsFit c.self.view_is c.self.invariant) c.requires.heard c.requires.own)
    c.choose.result (answers c)
