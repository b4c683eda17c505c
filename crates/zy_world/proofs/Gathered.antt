-- The next frames, gathered one by one.
use Rattle.std.proofs.Common.{◌≡◌, ℕ, suc, ◌+◌, ◌<◌, ◌≤◌, ◌⊎◌, inl, inr, Bool, true, false, not, cond, ◌&&◌, ◌||◌, List, [], ◌∷◌, ◌++◌, length, map, drop, drop-cons, get_or, Option, Some, None, Result, Ok, Err, refl, sym, ap, ap₂, ◌∙◌, subst, append_assoc, length-append, arith}
use Rattle.std.specs.Prelude.{slice_get, option_map, unwrap_or, nat_lt, if◌then◌else◌, IfOk, OnOk}
use Rattle.std.proofs.lemmas.Bool.{le-ltb}
use Rattle.std.proofs.lemmas.List.{drop_all}
use Rattle.std.proofs.lemmas.Option.{slice_get-get_or, slice_get-map, unwrap_or-slice_get}
use Rattle.zy_base.specs.declared.ids.Party.{Party}
use Rattle.zy_base.specs.declared.ids.Party.TheVariants as parties
use Rattle.zy_base.specs.declared.want.Want.{Want}
use Rattle.zy_world.specs.Ahead.{AreApart, IsBatch, due_from, due_of, is_free, with_taken}
use Rattle.zy_world.specs.Gathering.{AreGathered, GoesIn, GoesOn, IsGathered, IsSecond}
use Rattle.zy_world.specs.Passed.{is_due_in}
use Rattle.zy_world.specs.Shown.{Shown, is_correct_seat, seat_in, seat_of, muted_in}
use Rattle.zy_world.specs.Shows.{Shows}
use Rattle.zy_world.specs.declared.batch.Batch.{Batch}
use Rattle.zy_world.specs.declared.batch.Due.{Due}
use Rattle.zy_world_law.specs.World.{World, Mail, is_due, is_told, next_undelivered}
use Rattle.zy_world.proofs.Due.{due_is}
use Rattle.zy_world.proofs.DueFrames.{due_past, none_of}
use Rattle.zy_world.proofs.OutOfSeats.{apart_more}

-- ---- one frame

-- the frame at an index, as it is read there
pub read_there : {S : Type 0} (v : Shown S) (at : ℕ) (mails : List Mail) (mail : Mail) → mails ≡ v.bag.mails → at < length v.bag.mails → mail ≡ get_or mails at mail
    → (slice_get v.bag.mails at ≡ Some mail) × (drop at v.bag.mails ≡ mail ∷ drop (at + 1) v.bag.mails)
read_there v at mails mail same below is =
    let all = v.bag.mails in
    let here : mail ≡ get_or all at mail = is ∙ ap (λ (l : List Mail). get_or l at mail) same in
    let next : suc at ≡ at + 1 = omega arith in (
      slice_get-get_or all at mail below ∙ ap (λ (m : Mail). Some m) (sym here),
      drop-cons all at mail below ∙ ap (λ (m : Mail). m ∷ drop (suc at) all) (sym here) ∙ ap (λ (n : ℕ). mail ∷ drop n all) next,
    )

module _ {S : Type 0} (v : Shown S) (at : ℕ) (mail : Mail) (there : slice_get v.bag.mails at ≡ Some mail) (rest : drop at v.bag.mails ≡ mail ∷ drop (at + 1) v.bag.mails) where
  abbrev behind : List Due
  behind = due_from (is_due_in v) (at + 1 + 1) (drop (at + 1) v.bag.mails)

  from_here : (b : Bool) → is_due_in v mail ≡ b → due_from (is_due_in v) (at + 1) (drop at v.bag.mails) ≡ (if b then due_of (at + 1) mail ∷ behind else behind)
  from_here b is =
      ap (λ (mails : List Mail). due_from (is_due_in v) (at + 1) mails) rest
      ∙ ap (λ (c : Bool). if c then due_of (at + 1) mail ∷ behind else behind) is

  pub passes_over : (batch : Batch) → is_due_in v mail ≡ false → GoesOn v at batch (at + 1) batch
  passes_over batch none all sits is = record {
    due = is.due ∙ ap (λ (l : List Due). batch.dues.items ++ l) (from_here false none);
    apart = is.apart;
  }

  pub one_more : (old new : Batch) → is_due_in v mail ≡ true → is_free mail.to old.sits.items ≡ true → new.dues.items ≡ old.dues.items ++ due_of (at + 1) mail ∷ []
      → new.sits.items ≡ with_taken mail.to old.sits.items → GoesOn v at old (at + 1) new
  one_more old new due free added taken all sits is = record {
    due =
        is.due ∙ ap (λ (l : List Due). old.dues.items ++ l) (from_here true due) ∙ sym (append_assoc old.dues.items (due_of (at + 1) mail ∷ []) behind)
        ∙ ap (λ (l : List Due). l ++ behind) (sym added);
    apart =
        subst (λ (l : List Due). AreApart new.sits.items l sits) (sym added)
        (subst (λ (l : List Bool). AreApart l (old.dues.items ++ due_of (at + 1) mail ∷ []) sits) (sym taken)
        (apart_more old.sits.items old.dues.items (due_of (at + 1) mail) sits is.apart free));
  }

same_batch : {S : Type 0} (v : Shown S) (at : ℕ) (old new : Batch) → new.dues.items ≡ old.dues.items → new.sits.items ≡ old.sits.items → GoesOn v at old at new
same_batch v at old new dues sits all s is = record {
  due = is.due ∙ ap (λ (l : List Due). l ++ due_from (is_due_in v) (at + 1) (drop at v.bag.mails)) (sym dues);
  apart = subst (λ (l : List Due). AreApart new.sits.items l s) (sym dues) (subst (λ (l : List Bool). AreApart l old.dues.items s) (sym sits) is.apart);
}

module _ {S : Type 0} (v : Shown S) (at : ℕ) (mail : Mail) (there : slice_get v.bag.mails at ≡ Some mail) (rest : drop at v.bag.mails ≡ mail ∷ drop (at + 1) v.bag.mails) (due : is_due_in v mail ≡ true)
    (old new : Batch) where
  -- what it is to the gathered ones, by whether its replica sits in its seat
  abbrev pub dues_if : Bool → List Due
  dues_if free = if free then old.dues.items ++ due_of (at + 1) mail ∷ [] else old.dues.items

  abbrev pub sits_if : Bool → List Bool
  sits_if free = if free then with_taken mail.to old.sits.items else old.sits.items

  added_by : (free is : Bool) → is_free mail.to old.sits.items ≡ is → free ≡ is → new.dues.items ≡ dues_if is → new.sits.items ≡ sits_if is → GoesIn v at old new free
  added_by true true free same dues sits =
      (one_more v at mail there rest old new due free dues sits, omega (arith, ap length dues, length-append old.dues.items (due_of (at + 1) mail ∷ [])))
  added_by true false free same dues sits = absurd cc
  added_by false true free same dues sits = absurd cc
  added_by false false free same dues sits = (
    same_batch v at old new dues sits,
    omega (arith, ap length dues),
    record { mail = mail; there = there; due = due; stands = ap (is_free mail.to) sits ∙ free },
  )

  pub added : (r : Result Bool Want) → OnOk r (new.dues.items ≡ dues_if (is_free mail.to old.sits.items)) → OnOk r (new.sits.items ≡ sits_if (is_free mail.to old.sits.items))
      → IfOk r (λ free. free ≡ is_free mail.to old.sits.items) → IfOk r (GoesIn v at old new)
  added (Ok free) dues sits same = added_by free (is_free mail.to old.sits.items) refl same dues sits
  added (Err want) dues sits same = tt

-- ---- one after another

module _ {S : Type 0} (v : Shown S) (most from at : ℕ) (old batch new : Batch) (on : GoesOn v from old at batch) (few : length old.dues.items ≤ most → length batch.dues.items ≤ most) where
  pub gathers_on : length batch.dues.items < most → GoesIn v at batch new true → GoesOn v from old (at + 1) new × (length old.dues.items ≤ most → length new.dues.items ≤ most)
  gathers_on room goes = ((λ all sits is. goes.0 all sits (on all sits is)), (λ within. omega (arith, goes.1, room)))

module _ {S : Type 0} (v : Shown S) (most at : ℕ) (old batch : Batch) (on : GoesOn v v.bag.passed.idle old at batch) (few : length old.dues.items ≤ most → length batch.dues.items ≤ most) where
  pub gathered_to_second : (new : Batch) → GoesIn v at batch new false → AreGathered v most old new
  gathered_to_second new goes = record {
    at = at;
    on = λ all sits is. goes.0 all sits (on all sits is);
    few = λ within. let before = few within in omega (arith, goes.1, before);
    end = inr (inr goes.2);
  }

  pub gathered_to_end : length v.bag.mails ≤ at → AreGathered v most old batch
  gathered_to_end past = record { at = at; on = on; few = few; end = inl past }

  pub gathered_so_many : most ≤ length batch.dues.items → AreGathered v most old batch
  gathered_so_many full = record { at = at; on = on; few = few; end = inr (inl full) }

-- ---- all of them

due_correct : (delivered dropped correct muted : Bool) → (not (delivered || (dropped || not correct)) && not muted) ≡ true → correct ≡ true
due_correct true dropped correct muted is = absurd cc
due_correct false true correct muted is = absurd cc
due_correct false false false muted is = absurd cc
due_correct false false true muted is = refl

told_or : {A : Type 0} (o : Option (Option A)) → is_correct_seat (seat_in o) ≡ true → unwrap_or (option_map is_told o) false ≡ true
told_or None is = absurd cc
told_or (Some None) is = absurd cc
told_or (Some (Some x)) is = refl

free_to : {S : Type 0} (v : Shown S) (to : Party) → is_correct_seat (seat_of v.seats to) ≡ true → is_free to (map is_told v.seats.replicas) ≡ true
free_to v (parties.Client id) is = refl
free_to v (parties.Replica id) is =
    sym (unwrap_or-slice_get (map is_told v.seats.replicas) id.0 false)
    ∙ ap (λ (o : Option Bool). unwrap_or o false) (slice_get-map is_told v.seats.replicas id.0) ∙ told_or (slice_get v.seats.replicas id.0) is

-- the first frame that is due goes to a replica in its seat
first_free : {S : Type 0} (v : Shown S) (mail : Mail) → is_due_in v mail ≡ true → is_free mail.to (map is_told v.seats.replicas) ≡ true
first_free v mail due = free_to v mail.to (due_correct mail.delivered mail.dropped (is_correct_seat (seat_of v.seats mail.to)) (muted_in v.mutes mail.to) due)

module _ {S : Type 0} (g : World S) (v : Shown S) (s : Shows g v) (within : v.bag.passed.idle ≤ length v.bag.mails) (most : ℕ) (old new : Batch) (none : old.dues.items ≡ [])
    (all_sit : old.sits.items ≡ map is_told v.seats.replicas) (are : AreGathered v most old new) where
  abbrev all : List Due
  all = due_from (is_due_in v) 1 v.bag.mails

  abbrev left : List Due
  left = due_from (is_due_in v) (are.at + 1) (drop are.at v.bag.mails)

  begins : IsGathered v all (map is_told v.seats.replicas) v.bag.passed.idle old
  begins =
      let first : 1 + v.bag.passed.idle ≡ v.bag.passed.idle + 1 = omega arith in
      record {
        due =
            due_past (is_due_in v) 1 v.bag.mails v.bag.passed.idle within s.past.idle
            ∙ ap (λ (n : ℕ). due_from (is_due_in v) n (drop v.bag.passed.idle v.bag.mails)) first
            ∙ ap (λ (l : List Due). l ++ due_from (is_due_in v) (v.bag.passed.idle + 1) (drop v.bag.passed.idle v.bag.mails)) (sym none);
        apart = subst (λ (l : List Due). AreApart old.sits.items l (map is_told v.seats.replicas)) (sym none) (sym all_sit);
      }

  ends : IsGathered v all (map is_told v.seats.replicas) are.at new
  ends = are.on all (map is_told v.seats.replicas) begins

  all_is : due_from (is_due g) 1 g.bag ≡ all
  all_is =
      let tests : is_due g ≡ is_due_in v = λ j mail. due_is g v s mail j in
      ap₂ (λ (p : Mail → Bool) (mails : List Mail). due_from p 1 mails) tests s.mails

  pub are_batch : IsBatch g new.dues.items v
  are_batch = record {
    next = record { more = left; all = all_is ∙ ends.due };
    left = new.sits.items;
    apart = ends.apart;
  }

  none_next : due_from (is_due g) 1 g.bag ≡ [] → next_undelivered g ≡ None
  none_next is =
      ap (λ (n : ℕ). option_map (λ before. before + 1) (cond (nat_lt n (length g.bag)) (Some n) None)) (none_of (is_due g) 1 g.bag is)
      ∙ ap (λ (b : Bool). option_map (λ before. before + 1) (cond b (Some (length g.bag)) None)) (le-ltb (length g.bag) (length g.bag) (omega arith))

  nothing_behind : length v.bag.mails ≤ are.at → left ≡ []
  nothing_behind past = ap (λ (mails : List Mail). due_from (is_due_in v) (are.at + 1) mails) (drop_all are.at v.bag.mails past)

  -- where a replica stands among them twice, one does
  not_second : new.dues.items ≡ [] → IsSecond v are.at new → ⊥
  not_second empty second =
      let sits : map is_told v.seats.replicas ≡ new.sits.items = subst (λ (l : List Due). AreApart new.sits.items l (map is_told v.seats.replicas)) empty ends.apart in
      let free : true ≡ false = sym (first_free v second.mail second.due) ∙ ap (is_free second.mail.to) sits ∙ second.stands in cc

  none_by : 0 < most → new.dues.items ≡ [] → (length v.bag.mails ≤ are.at) ⊎ ((most ≤ length new.dues.items) ⊎ IsSecond v are.at new) → next_undelivered g ≡ None
  none_by some empty (inl past) = none_next (all_is ∙ ends.due ∙ ap₂ (λ (l m : List Due). l ++ m) empty (nothing_behind past))
  none_by some empty (inr (inl full)) = absurd (omega (arith, full, some, ap length empty))
  none_by some empty (inr (inr second)) = absurd (not_second empty second)

  pub none_left : 0 < most → new.dues.items ≡ [] → next_undelivered g ≡ None
  none_left some empty = none_by some empty are.end
