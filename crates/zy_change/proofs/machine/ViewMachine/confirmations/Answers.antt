use Rattle.std.proofs.Common.{◌≡◌, ◌++◌, take, option_to_list, ap, ◌∙◌, subst, arith}
use Rattle.std.specs.List.{filter_map, range_with_len}
use Rattle.zy_change.specs.Ahead.{kept_began}
use Rattle.zy_change.specs.Fit.{IsFit}
use Rattle.zy_change.specs.Views.{Views, began_equal}
use Rattle.zy_change.proofs.BeginningLemmas.{begans_by}
use Rattle.zy_change.proofs.IndexLemmas.{next_taken}
use Rattle.zy_change.proofs.machine.ViewMachine.confirmations.Goals as goal

pub loop-id-preserved : goal.loop-id-preserved
loop-id-preserved c =
    next_taken c.args.self.now.counts.cert (λ id. began_equal c.args.began.now (kept_began c.args.self.now id)) c.loop-id.id _ _ c.loop-id.invariant
    (c.in_ok-push_up_to.ensures
    ∙ ap (λ o. take c.self.inside.counts.cert (c.loop-id.begans ++ option_to_list o)) c.confirmation.ensures
    ∙ ap (λ (v : Views). take v.counts.cert (c.loop-id.begans ++ option_to_list (began_equal c.args.began.now (kept_began c.args.self.now c.loop-id.id)))) c.self.view_is)

pub returns : goal.returns
returns c =
    let v = c.args.self.now in
    let end : c.loop-id.id ≡ c.self.inside.counts.n = omega (arith, c.loop-id-test.false, c.loop-id.auto.id-end) in
    c.loop-id.invariant
    ∙ ap (λ k. take v.counts.cert (filter_map (λ id. began_equal c.args.began.now (kept_began v id)) (range_with_len 0 k))) (end ∙ ap (λ (u : Views). u.counts.n) c.self.view_is)
    ∙ ap (take v.counts.cert) (begans_by v c.args.began.now (subst IsFit c.self.view_is c.self.invariant))
