use Rattle.std.proofs.Common.{rules, tests, ◌≡◌, ℕ, min, Option, sym, ap, ◌∙◌, arith}
use Rattle.std.specs.List.{filter_map, range_with_len, reduce}
use Rattle.std.proofs.lemmas.Iterator.{YieldsList-from_range}
use Rattle.std.proofs.lemmas.Iterator.Consumers.{YieldsList-from_filter_map, YieldsList-at, min_from_yields_List}
use Rattle.zy_change.specs.Ahead as forms
use Rattle.zy_change.specs.Views.{Views}
use Rattle.zy_change.proofs.IndexLemmas.{copied_same}
use Rattle.zy_change.proofs.machine.ViewMachine.lowest_above.Goals as goal

pub returns : goal.returns
returns c =
    let gives : ℕ → Option ℕ = forms.above_ahead c.args.self.now c.args.vote.now in
    let here : c.min.result ≡ reduce min (filter_map gives (range_with_len 0 c.self.inside.counts.n)) =
    sym (copied_same c.min.result)
    ∙ min_from_yields_List _ c.min.result c.min.ensures.ran
    (YieldsList-from_filter_map _ gives (YieldsList-at c.filter_map.ensures.source (YieldsList-from_range 0 c.self.inside.counts.n c.self.inside.counts.n (cc) (omega arith))) c.filter_map.ensures.closure (λ x r q k. search (rules, tests))) in
    here ∙ ap (λ (v : Views). reduce min (filter_map gives (range_with_len 0 v.counts.n))) c.self.view_is
