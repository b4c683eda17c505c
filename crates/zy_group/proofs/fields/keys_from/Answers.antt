use Rattle.std.proofs.Common.{◌≡◌, ◌≤◌, ◌<◌, ◌∙◌, sym, length, get_or}
use Rattle.zy_group.proofs.KeysLemmas.{keys-done, keys-other, keys-more}
use Rattle.zy_group.proofs.fields.keys_from.Goals as goal

pub returns-in-None : goal.returns-in-None
returns-in-None c =
    let values = c.args.array.now.items in
    let below : c.values.value-index < length values = rw c.deref-value-items.ensures.value at c.values-test.true in
    let here : c.value-item.result ≡ get_or values c.values.value-index c.value-item.result = rw c.deref-value-items.ensures.value at c.value-item.is in
    sym (keys-other c.values.keys.items values c.values.value-index c.value-item.result below here (sym c.in-None.is ∙ c.key_of.ensures)) ∙ c.values.invariant

pub values-preserved : goal.values-preserved
values-preserved c =
    let values = c.args.array.now.items in
    let below : c.values.value-index < length values = rw c.deref-value-items.ensures.value at c.values-test.true in
    let here : c.value-item.result ≡ get_or values c.values.value-index c.value-item.result = rw c.deref-value-items.ensures.value at c.value-item.is in
    rw c.in_ok-push-in-Some.ensures.items (sym (keys-more c.values.keys.items values c.values.value-index c.value-item.result below here c.in-Some.key (sym c.in-Some.is ∙ c.key_of.ensures)) ∙ c.values.invariant)

pub returns : goal.returns
returns c =
    let values = c.args.array.now.items in
    let past : length values ≤ c.values.value-index = rw c.deref-value-items.ensures.value at c.values-test.false in
    sym (keys-done c.values.keys.items values c.values.value-index past) ∙ c.values.invariant
