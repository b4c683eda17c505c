-- The history that is taken up: its end and its heads.
use Rattle.std.proofs.Common.{◌≡◌, ℕ, ◌+◌, ◌-◌, ◌≤◌, inl, inr, List, [], ◌++◌, length, take, drop, Some, refl, sym, ap, ◌∙◌, arith}
use Rattle.std.proofs.lemmas.Bool.{cases_lt, lt-ltb}
use Rattle.std.proofs.lemmas.List.{take-append-le, take-take, take_all, length-append, length-take, length-take-le, length-drop}
use Rattle.std.proofs.lemmas.List.Sums.{fold-append}
use Rattle.std.proofs.lemmas.Option.{same_Some}
use Rattle.std.proofs.Math.Seq.{take-add, take-append-add}
use Rattle.zy_base.specs.Machine.{Rules}
use Rattle.zy_base.specs.declared.ids.Digest.{Digest}
use Rattle.zy_chain.specs.declared.entry.Entry.{Entry}
use Rattle.zy_chain.specs.Entries.{digest_of_entry}
use Rattle.zy_chain.specs.Heads.{head_after, head_from}
use Rattle.zy_chain.specs.Stretch.{Stretch, end_of, head_in, IsShared}
use Rattle.zy_exec.specs.Kept.{Kept, stretch_of, last_place, back_to}
use Rattle.zy_table.specs.Adopting.{common_with, entries_between, with_entries, taken_over, gots_along, gots_of}
use Rattle.zy_replica_adopt.specs.Meeting.{Meets}
use Rattle.zy_replica_adopt.proofs.CommonLemmas.{head_there, head_within, common_low, common_high}
use Rattle.zy_replica_adopt.proofs.GotLemmas.{with_none}

-- ---- heads of the own entries with others behind them

head_from-append : (head : Digest) (front back : List Entry) → head_from head (front ++ back) ≡ head_from (head_from head front) back
head_from-append head front back = fold-append (λ h e. head_after h (digest_of_entry e)) head front back

-- the first so many of the own entries, and more behind them
first_kept : (own others : List Entry) (low at : ℕ) → at ≤ low → low ≤ length own → take at (take low own ++ others) ≡ take at own
first_kept own others low at below within =
    let long = length-take-le low own within in
    take-append-le at (take low own) others (omega (arith, long)) ∙ take-take at low own below

-- further ones of the report
then_told : (front entries : List Entry) (from more count : ℕ) → more ≤ count → take (length front + more) (front ++ take count (drop from entries)) ≡ front ++ take more (drop from entries)
then_told front entries from more count below =
    take-append-add front (take count (drop from entries)) more ∙ ap (λ (es : List Entry). front ++ es) (take-take more count (drop from entries) below)

module _ {S : Type 0} (told : Stretch) (place : ℕ) (k : Kept S) (meets : Meets told place k) where
  abbrev low : ℕ
  low = common_with told place k

  abbrev kept : List Entry
  kept = take (low - k.base.place) k.entries

  kept_length : length kept ≡ low - k.base.place
  kept_length = length-take-le (low - k.base.place) k.entries (omega (arith, meets.own_end))

  pub taken_end : place ≤ end_of told → last_place (taken_over told place k) ≡ place
  unfolding taken_over
  taken_end within =
      omega (
        arith,
        meets.own_base,
        meets.told_base,
        meets.up_to,
        kept_length,
        length-append kept (entries_between told low place),
        length-take (place - told.base.place - (low - told.base.place)) (drop (low - told.base.place) told.entries),
        length-drop (low - told.base.place) told.entries,
      )

  -- up to where both meet
  pub taken_own : (at : ℕ) → at ≤ low → head_in (stretch_of (taken_over told place k)) at ≡ head_in (stretch_of k) at
  unfolding taken_over
  taken_own at below =
      elim (cases_lt at k.base.place) [
        | inl under ↦ rw (lt-ltb at k.base.place under) refl
        | inr above ↦
            let more = entries_between told low place in
            let all = length-append kept more in
            head_there (stretch_of (with_entries (back_to low k) more)) at above (omega (arith, all, kept_length))
            ∙ ap (λ (es : List Entry). Some (head_from k.base.head es)) (first_kept k.entries more (low - k.base.place) (at - k.base.place) (omega arith) (omega (arith, meets.own_end)))
            ∙ sym (head_there (stretch_of k) at above (omega (arith, meets.own_end)))
      ]

  -- both have one head there
  met : head_from k.base.head kept ≡ head_from told.base.head (take (low - told.base.place) told.entries)
  met =
      let shared = meets.shared in
      let own : Some (head_from k.base.head kept) ≡ Some shared.head =
      sym (head_there (stretch_of k) low meets.own_base meets.own_end) ∙ shared.second in
      let other : Some shared.head ≡ head_in told low = sym shared.first in
      let within : low ≤ end_of told = (head_within told low shared.head shared.first).1 in
      same_Some _ _ (own ∙ other ∙ head_there told low meets.told_base within)

  -- and from there on
  pub taken_told : (at : ℕ) → place ≤ end_of told → low ≤ at → at ≤ place → head_in (stretch_of (taken_over told place k)) at ≡ head_in told at
  unfolding taken_over
  taken_told at within above below =
      let end : last_place (taken_over told place k) ≡ place = taken_end within in
      let from = low - told.base.place in
      let more = at - low in
      let count = place - told.base.place - from in
      let behind = entries_between told low place in
      let own_count : at - k.base.place ≡ length kept + more = omega (arith, meets.own_base, kept_length) in
      let told_count : from + more ≡ at - told.base.place = omega (arith, meets.told_base) in
      head_there (stretch_of (with_entries (back_to low k) behind)) at (omega (arith, meets.own_base)) (omega (arith, end))
      ∙ ap (λ (n : ℕ). Some (head_from k.base.head (take n (kept ++ behind)))) own_count
      ∙ ap (λ (es : List Entry). Some (head_from k.base.head es)) (then_told kept told.entries from more count (omega (arith, meets.told_base, meets.up_to)))
      ∙ ap (λ (d : Digest). Some d)
      (head_from-append k.base.head kept (take more (drop from told.entries))
      ∙ ap (λ (d : Digest). head_from d (take more (drop from told.entries))) met
      ∙ sym (head_from-append told.base.head (take from told.entries) (take more (drop from told.entries)))
      ∙ ap (head_from told.base.head) (sym (take-add from more told.entries) ∙ ap (λ (n : ℕ). take n told.entries) told_count))
      ∙ sym (head_there told at (omega (arith, meets.told_base)) (omega (arith, within)))

-- ---- a history that is there already

module _ {S : Type 0} (told : Stretch) (k : Kept S) (shared : IsShared told (stretch_of k) (last_place k)) where
  here : common_with told (last_place k) k ≡ last_place k
  here =
      let least = common_high told (stretch_of k) (last_place k) (last_place k) shared (omega arith) in
      let most = common_low told (stretch_of k) (last_place k) in
      omega (arith, least, most)

  none_between : (place : ℕ) → entries_between told place place ≡ []
  none_between place =
      let none : place - told.base.place - (place - told.base.place) ≡ 0 = omega arith in
      ap (λ (n : ℕ). take n (drop (place - told.base.place) told.entries)) none

  back_to_end : back_to (last_place k) k ≡ k
  back_to_end =
      let all : last_place k - k.base.place ≡ length k.entries = omega arith in
      ap (λ (es : List Entry). record k { entries = es }) (take_all (last_place k - k.base.place) k.entries (omega (arith, all)))

  pub taken_same : taken_over told (last_place k) k ≡ k
  unfolding taken_over
  taken_same =
      ap (λ (n : ℕ). with_entries (back_to n k) (entries_between told n (last_place k))) here
      ∙ ap (with_entries (back_to (last_place k) k)) (none_between (last_place k))
      ∙ with_none (back_to (last_place k) k)
      ∙ back_to_end

  pub nothing_gained : (R : Rules S) → gots_of R told (last_place k) k ≡ []
  unfolding gots_of
  nothing_gained R =
      ap (λ (n : ℕ). gots_along R (back_to n k) (entries_between told n (last_place k))) here
      ∙ ap (gots_along R (back_to (last_place k) k)) (none_between (last_place k))
