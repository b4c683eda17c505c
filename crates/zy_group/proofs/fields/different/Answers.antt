use Rattle.std.proofs.Common.{◌≡◌, ◌≤◌, ◌<◌, ◌∙◌, sym, length, get_or}
use Rattle.zy_group.proofs.DifferentLemmas.{different-done, different-other, different-again, different-more}
use Rattle.zy_group.proofs.fields.different.Goals as goal

pub returns-in-None : goal.returns-in-None
returns-in-None c =
    let values = c.args.array.now.items in
    let below : c.values.value-index < length values = rw c.deref-value-items.ensures.value at c.values-test.true in
    let here : c.value-item.result ≡ get_or values c.values.value-index c.value-item.result = rw c.deref-value-items.ensures.value at c.value-item.is in
    sym (different-other c.args.last c.values.numbers values c.values.value-index c.value-item.result below here (sym c.in-None.is ∙ c.number_of.ensures.is)) ∙ c.values.invariant

pub returns-then-contains : goal.returns-then-contains
returns-then-contains c =
    let values = c.args.array.now.items in
    let below : c.values.value-index < length values = rw c.deref-value-items.ensures.value at c.values-test.true in
    let here : c.value-item.result ≡ get_or values c.values.value-index c.value-item.result = rw c.deref-value-items.ensures.value at c.value-item.is in
    sym (different-again c.args.last c.values.numbers values c.values.value-index c.value-item.result below here c.in-Some.number (sym c.in-Some.is ∙ c.number_of.ensures.is) (sym c.contains.ensures ∙ c.if-contains.true)) ∙ c.values.invariant

pub values-preserved : goal.values-preserved
values-preserved c =
    let values = c.args.array.now.items in
    let below : c.values.value-index < length values = rw c.deref-value-items.ensures.value at c.values-test.true in
    let here : c.value-item.result ≡ get_or values c.values.value-index c.value-item.result = rw c.deref-value-items.ensures.value at c.value-item.is in
    rw c.in_ok-push.ensures (sym (different-more c.args.last c.values.numbers values c.values.value-index c.value-item.result below here c.in-Some.number (sym c.in-Some.is ∙ c.number_of.ensures.is) (sym c.contains.ensures ∙ c.if-contains.false)) ∙ c.values.invariant)

pub returns : goal.returns
returns c =
    let values = c.args.array.now.items in
    let past : length values ≤ c.values.value-index = rw c.deref-value-items.ensures.value at c.values-test.false in
    sym (different-done c.args.last c.values.numbers values c.values.value-index past) ∙ c.values.invariant
