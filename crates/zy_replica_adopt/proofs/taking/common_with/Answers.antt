use Rattle.std.proofs.Common.{rules, ◌≡◌, ◌+◌, ◌-◌, ◌<◌, ℕ, length, take, Some, refl, ap, ◌∙◌, sym, arith}
use Rattle.zy_base.specs.declared.ids.Digest.{Digest}
use Rattle.zy_chain.specs.Entries.{digest_of_entry}
use Rattle.zy_chain.specs.Heads.{head_after, head_from}
use Rattle.zy_chain.specs.Stretch.{Stretch, head_in}
use Rattle.zy_exec.specs.Kept.{stretch_of as own_stretch}
use Rattle.zy_evidence.specs.Reading.{stretch_of}
use Rattle.zy_replica_adopt.proofs.CommonLemmas.{none_below, common_first, common_more, head_there, head_more}
use Rattle.zy_replica_adopt.proofs.GotLemmas.{item_of}
use Rattle.zy_replica_adopt.proofs.taking.common_with.Goals as goal

pub returns-then-lt : goal.returns-then-lt
returns-then-lt g c =
    let below : c.args.place.0 < c.args.told.now.stable_place.0 = search rules in
    sym (none_below (stretch_of c.args.told.now) (own_stretch c.args.exec.now) c.args.place.0 below)

pub loop-entry-init : goal.loop-entry-init
loop-entry-init g c = record {
  items = ap (take (c.args.place.0 - c.args.told.now.stable_place.0)) c.as_slice.ensures.value;
  at = omega arith;
  head = refl;
  common = common_first (stretch_of c.args.told.now) (own_stretch c.args.exec.now) c.args.told.now.stable_place c.further-common.result refl c.further-common.ensures;
}

pub loop-entry-preserved : goal.loop-entry-preserved
loop-entry-preserved g c =
    let told : Stretch = stretch_of c.args.told.now in
    let own : Stretch = own_stretch c.args.exec.now in
    let entries = c.args.told.now.entries in
    let base = c.args.told.now.stable_head in
    let i = c.loop-entry.entry-index in
    let e = c.entry-item.result in
    let count = c.args.place.0 - c.args.told.now.stable_place.0 in
    let so_far = c.loop-entry.invariant in
    let item = item_of entries (take count c.as_slice.result.now) count i e so_far.items c.loop-entry-test.true c.entry-item.is in
    let within : i < length entries = item.0 in
    let next = c.loop-entry.at.0 + 1 in
    let head : c.next_head-head.result ≡ head_from base (take (i + 1) entries) =
    c.next_head-head.ensures
    ∙ ap (head_after c.loop-entry.head) c.entry_digest.ensures
    ∙ ap (λ (h : Digest). head_after h (digest_of_entry e)) so_far.head
    ∙ sym (head_more base entries i e within item.1) in
    let above : next - told.base.place ≡ i + 1 = omega (arith, so_far.at) in
    let there : head_in told next ≡ Some c.next_head-head.result =
    head_there told next (omega (arith, so_far.at)) (omega (arith, so_far.at, within))
    ∙ ap (λ (n : ℕ). Some (head_from base (take n entries))) above
    ∙ ap (λ (h : Digest). Some h) (sym head) in
    record {
      items = so_far.items;
      at = omega (arith, so_far.at);
      head = head;
      common = common_more told own c.loop-entry.at (record { 0 = next }) c.loop-entry.common c.further-common-in-loop-entry.result c.next_head-head.result refl there so_far.common c.further-common-in-loop-entry.ensures;
    }
