use Rattle.std.proofs.Common.{rules, tests, ◌≡◌, ℕ, Bool, is_some, sym, ap, ◌∙◌, arith}
use Rattle.std.specs.Prelude.{option_copied, slice_get}
use Rattle.std.specs.List.{filter, range_with_len}
use Rattle.std.proofs.lemmas.Iterator.{YieldsList-from_range}
use Rattle.std.proofs.lemmas.Iterator.Consumers.{YieldsList-from_filter, YieldsList-at, nth_from_yields_List}
use Rattle.zy_change.specs.Ahead as forms
use Rattle.zy_change.specs.Views.{Views}
use Rattle.zy_change.proofs.IndexLemmas.{copied_same}
use Rattle.zy_change.proofs.machine.ViewMachine.reporter_at.Goals as goal

pub returns : goal.returns
returns c =
    let test : ℕ → Bool = λ id. is_some (forms.told_ahead c.args.self.now c.args.view (option_copied c.args.heard) (option_copied c.args.own) id) in
    let here : c.nth.result ≡ slice_get (filter test (range_with_len 0 c.self.inside.counts.n)) c.args.index =
    sym (copied_same c.nth.result)
    ∙ nth_from_yields_List c.nth.result _ c.args.index c.nth.ensures.ran
    (YieldsList-from_filter _ test (YieldsList-at c.filter.ensures.source (YieldsList-from_range 0 c.self.inside.counts.n c.self.inside.counts.n (cc) (omega arith))) c.filter.ensures.closure (λ x b q k. search (rules, tests))) in
    here ∙ ap (λ (v : Views). slice_get (filter test (range_with_len 0 v.counts.n)) c.args.index) c.self.view_is
