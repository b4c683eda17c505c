-- Records that are stored one after another, over any disk.
use Rattle.std.proofs.Common.{◌≡◌, inl, inr, ℕ, ◌+◌, ◌^◌, List, [], ◌∷◌, ◌++◌, length, take, Option, Some, None, IfSome, is_some, Result, Ok, Err, refl, sym, ap, subst, ◌∙◌, append_assoc, length-append, arith}
use Rattle.std.proofs.lemmas.Bool.{cases_lt}
use Rattle.std.proofs.lemmas.List.{append-nil, take-append-le}
use Rattle.std.proofs.Math.Seq.{take-append-add}
use Rattle.zy_edge.specs.Link.{Parcel}
use Rattle.zy_journal.specs.Disk.{LeavesOnly}
use Rattle.zy_journal.specs.Journal.{Has, HasOrNot, IsAtEnd, IsFull, StandsFor, block_of, blocks}
use Rattle.zy_journal.proofs.Lists.{length-block}
use Rattle.zy_journal.proofs.Moments.{then_on, weaker}
use Rattle.zy_node.specs.Keeping.{HasAll, HasFront, HasRoom, KeepsAs, Stores, StoresFront, StoresNot, UnsentState}
use Rattle.zy_node.specs.Turn.{HostState, Reached, onward}
use Rattle.zy_node.specs.declared.fault.TakeFault.{TakeFault}
use Rattle.zy_node.specs.declared.fault.TakeFault.TheVariants as take_faults

-- ---- lists of records

blocks-append : (ps qs : List (List ℕ)) → length (blocks (ps ++ qs)) ≡ length (blocks ps) + length (blocks qs)
blocks-append [] qs = omega arith
blocks-append (p ∷ ps) qs = omega (arith, length-append (block_of p) (blocks (ps ++ qs)), length-append (block_of p) (blocks ps), blocks-append ps qs)

room-append : (gate next : ℕ) (ps qs : List (List ℕ)) → next ≡ gate + length (blocks ps) → HasRoom gate ps → HasRoom next qs → HasRoom gate (ps ++ qs)
room-append gate next ps qs place one (inr two) = inr (omega (arith, place, two, blocks-append ps qs))
room-append gate next ps [] place (inl one) (inl two) = inl (append-nil ps ∙ one)
room-append gate next ps [] place (inr one) (inl two) = inr (omega (arith, one, blocks-append ps []))
room-append gate next ps (q ∷ qs) place one (inl two) = absurd cc

room-before : (gate : ℕ) (ps qs : List (List ℕ)) → HasRoom gate (ps ++ qs) → HasRoom gate ps
room-before gate [] qs room = inl refl
room-before gate (p ∷ ps) qs (inl none) = absurd cc
room-before gate (p ∷ ps) qs (inr fits) = inr (omega (arith, fits, blocks-append (p ∷ ps) qs))

room-after : (gate next : ℕ) (ps qs : List (List ℕ)) → next ≡ gate + length (blocks ps) → HasRoom gate (ps ++ qs) → HasRoom next qs
room-after gate next ps [] place room = inl refl
room-after gate next [] (q ∷ qs) place (inl none) = absurd cc
room-after gate next (p ∷ ps) (q ∷ qs) place (inl none) = absurd cc
room-after gate next ps (q ∷ qs) place (inr fits) = inr (omega (arith, place, fits, blocks-append ps (q ∷ qs)))

-- ---- images

-- the file itself has none of them behind
pub same_front : (file : List ℕ) (records : List (List ℕ)) (image : List ℕ) → image ≡ file → HasFront file records image
same_front file records image is identity pieces stands = (
  0,
  omega arith,
  subst (λ (i : List ℕ). StandsFor identity i (pieces ++ [])) (sym is) (subst (λ (ps : List (List ℕ)). StandsFor identity file ps) (sym (append-nil pieces)) stands),
)

front_more : (file : List ℕ) (ps qs : List (List ℕ)) (image : List ℕ) → HasFront file ps image → HasFront file (ps ++ qs) image
front_more file ps qs image has identity pieces stands =
    let front = has identity pieces stands in (
      front.0,
      omega (arith, front.1, length-append ps qs),
      subst (λ (l : List (List ℕ)). StandsFor identity image (pieces ++ l)) (sym (take-append-le front.0 ps qs front.1)) front.2,
    )

front_behind : (file mid : List ℕ) (ps qs : List (List ℕ)) (image : List ℕ) → HasAll file ps mid → HasFront mid qs image → HasFront file (ps ++ qs) image
front_behind file mid ps qs image all has identity pieces stands =
    let front = has identity (pieces ++ ps) (all identity pieces stands) in
    let is : (pieces ++ ps) ++ take front.0 qs ≡ pieces ++ take (length ps + front.0) (ps ++ qs) =
    append_assoc pieces ps (take front.0 qs) ∙ ap (λ (l : List (List ℕ)). pieces ++ l) (sym (take-append-add ps qs front.0)) in (
      length ps + front.0,
      omega (arith, front.1, length-append ps qs),
      subst (StandsFor identity image) is front.2,
    )

all_behind : (file mid : List ℕ) (ps qs : List (List ℕ)) (image : List ℕ) → HasAll file ps mid → HasAll mid qs image → HasAll file (ps ++ qs) image
all_behind file mid ps qs image all more identity pieces stands = subst (StandsFor identity image) (append_assoc pieces ps qs) (more identity (pieces ++ ps) (all identity pieces stands))

one_behind : (file piece image : List ℕ) → HasOrNot file piece image → HasFront file (piece ∷ []) image
one_behind file piece image has identity pieces stands = elim (has identity pieces stands) [
  | inl not_yet ↦ (0, omega arith, subst (StandsFor identity image) (sym (append-nil pieces)) not_yet)
  | inr is ↦ (1, omega arith, is)
]

pub is_too_full : (gate : ℕ) (piece : List ℕ) → IsFull gate piece → HasRoom gate (piece ∷ []) → ⊥
is_too_full gate piece full (inl none) = absurd cc
is_too_full gate piece full (inr fits) = absurd (omega (arith, full, fits, length-append (block_of piece) [], length-block piece))

-- ---- disks

module _ {D : Type 0} (contents : D → Option (List ℕ)) (may_leave : D → List ℕ → Type 0) (moment : D → ℕ) (left_since : D → ℕ → List ℕ → Type 0) where
  -- no call was made
  still_front : (disk : D) (gate : ℕ) (records : List (List ℕ)) (told : Option (List ℕ)) → ((image : List ℕ) → left_since disk (moment disk) image → may_leave disk image)
      → IsAtEnd told (may_leave disk) gate → IfSome told (λ file. LeavesOnly moment left_since disk disk (HasFront file records))
  still_front disk gate records None only end = tt
  still_front disk gate records (Some file) only end = record {
    later = omega arith;
    each = λ image left. same_front file records image (end.1 image (only image left));
    before = λ t image le left. inl left;
  }

  still_has : (told : Option (List ℕ)) → IfSome told (λ file. IfSome told (HasAll file []))
  still_has None = tt
  still_has (Some file) = λ identity pieces stands. subst (StandsFor identity file) (sym (append-nil pieces)) stands

  pub nothing_stored : (disk : D) (gate : ℕ) (records : List (List ℕ)) → ((image : List ℕ) → left_since disk (moment disk) image → may_leave disk image) → IsAtEnd (contents disk) (may_leave disk) gate → StoresFront contents moment left_since records disk disk
  nothing_stored disk gate records only end = still_front disk gate records (contents disk) only end

  pub nothing_to_store : (disk : D) (gate : ℕ) → ((image : List ℕ) → left_since disk (moment disk) image → may_leave disk image) → IsAtEnd (contents disk) (may_leave disk) gate → Stores contents may_leave moment left_since gate [] gate disk disk
  nothing_to_store disk gate only end = record {
    told = refl;
    has = still_has (contents disk);
    any_moment = nothing_stored disk gate [] only end;
    end = end;
    place = omega arith;
    room = inl refl;
  }

  -- ---- one after another

  front_is_more : (old new : D) (ps qs : List (List ℕ)) (told : Option (List ℕ)) → IfSome told (λ file. LeavesOnly moment left_since old new (HasFront file ps)) → IfSome told (λ file. LeavesOnly moment left_since old new (HasFront file (ps ++ qs)))
  front_is_more old new ps qs None stored = tt
  front_is_more old new ps qs (Some file) stored = weaker moment left_since old new (HasFront file ps) (HasFront file (ps ++ qs)) (front_more file ps qs) stored

  pub front_of_more : (old new : D) (ps qs : List (List ℕ)) → StoresFront contents moment left_since ps old new → StoresFront contents moment left_since (ps ++ qs) old new
  front_of_more old new ps qs stored = front_is_more old new ps qs (contents old) stored

  both_fronts : (old mid new : D) (ps qs : List (List ℕ)) (a b : Option (List ℕ)) → is_some b ≡ is_some a
      → IfSome a (λ file. IfSome b (HasAll file ps)) → IfSome a (λ file. LeavesOnly moment left_since old mid (HasFront file ps))
      → IfSome b (λ file. LeavesOnly moment left_since mid new (HasFront file qs)) → IfSome a (λ file. LeavesOnly moment left_since old new (HasFront file (ps ++ qs)))
  both_fronts old mid new ps qs None b told has first second = tt
  both_fronts old mid new ps qs (Some file) None told has first second = absurd cc
  both_fronts old mid new ps qs (Some file) (Some between) told has first second =
      then_on moment left_since old mid new (HasFront file (ps ++ qs))
      (weaker moment left_since old mid (HasFront file ps) (HasFront file (ps ++ qs)) (front_more file ps qs) first)
      (weaker moment left_since mid new (HasFront between qs) (HasFront file (ps ++ qs)) (λ image has_front. front_behind file between ps qs image has has_front) second)

  pub front_after : (old mid new : D) (gate next : ℕ) (ps qs : List (List ℕ)) → Stores contents may_leave moment left_since gate ps next old mid → StoresFront contents moment left_since qs mid new → StoresFront contents moment left_since (ps ++ qs) old new
  front_after old mid new gate next ps qs first second = both_fronts old mid new ps qs (contents old) (contents mid) first.told first.has first.any_moment second

  both_has : (ps qs : List (List ℕ)) (a b c : Option (List ℕ)) → is_some b ≡ is_some a → IfSome a (λ file. IfSome b (HasAll file ps)) → IfSome b (λ file. IfSome c (HasAll file qs)) → IfSome a (λ file. IfSome c (HasAll file (ps ++ qs)))
  both_has ps qs None b c told first second = tt
  both_has ps qs (Some file) None c told first second = absurd cc
  both_has ps qs (Some file) (Some between) None told first second = tt
  both_has ps qs (Some file) (Some between) (Some last) told first second = all_behind file between ps qs last first second

  pub stored_after : (old mid new : D) (gate next last : ℕ) (ps qs : List (List ℕ)) → Stores contents may_leave moment left_since gate ps next old mid → Stores contents may_leave moment left_since next qs last mid new → Stores contents may_leave moment left_since gate (ps ++ qs) last old new
  stored_after old mid new gate next last ps qs first second = record {
    told = second.told ∙ first.told;
    has = both_has ps qs (contents old) (contents mid) (contents new) first.told first.has second.has;
    any_moment = front_after old mid new gate next ps qs first second.any_moment;
    end = second.end;
    place = omega (arith, first.place, second.place, blocks-append ps qs);
    room = room-append gate next ps qs first.place first.room second.room;
  }

  pub not_after : (old mid new : D) (gate next : ℕ) (ps qs : List (List ℕ)) (fault : TakeFault) → Stores contents may_leave moment left_since gate ps next old mid → StoresNot contents moment left_since next qs fault mid new → StoresNot contents moment left_since gate (ps ++ qs) fault old new
  not_after old mid new gate next ps qs take_faults.Disk first second = front_after old mid new gate next ps qs first second
  not_after old mid new gate next ps qs take_faults.Link first second = second
  not_after old mid new gate next ps qs take_faults.Full first second = ((λ room. second.0 (room-after gate next ps qs first.place room)), front_after old mid new gate next ps qs first second.1)
  not_after old mid new gate next ps qs take_faults.Want first second = front_after old mid new gate next ps qs first second

  pub not_before : (old new : D) (gate : ℕ) (ps qs : List (List ℕ)) (fault : TakeFault) → StoresNot contents moment left_since gate ps fault old new → StoresNot contents moment left_since gate (ps ++ qs) fault old new
  not_before old new gate ps qs take_faults.Disk first = front_of_more old new ps qs first
  not_before old new gate ps qs take_faults.Link first = first
  not_before old new gate ps qs take_faults.Full first = ((λ room. first.0 (room-before gate ps qs room)), front_of_more old new ps qs first.1)
  not_before old new gate ps qs take_faults.Want first = front_of_more old new ps qs first

  -- ---- one record

  moments_of_one : (old new : D) (piece : List ℕ) (told : Option (List ℕ)) → IfSome told (λ file. LeavesOnly moment left_since old new (HasOrNot file piece)) → IfSome told (λ file. LeavesOnly moment left_since old new (HasFront file (piece ∷ [])))
  moments_of_one old new piece None stored = tt
  moments_of_one old new piece (Some file) stored = weaker moment left_since old new (HasOrNot file piece) (HasFront file (piece ∷ [])) (one_behind file piece) stored

  pub one_not_stored : (old new : D) (piece : List ℕ) → IfSome (contents old) (λ file. LeavesOnly moment left_since old new (HasOrNot file piece)) → StoresFront contents moment left_since (piece ∷ []) old new
  one_not_stored old new piece stored = moments_of_one old new piece (contents old) stored

  pub one_stored : (old new : D) (gate next : ℕ) (piece : List ℕ) → next ≡ gate + 5 + length piece → IsAtEnd (contents new) (may_leave new) next
      → IfSome (contents old) (λ file. IfSome (contents new) (Has file piece)) → IfSome (contents old) (λ file. LeavesOnly moment left_since old new (HasOrNot file piece))
      → is_some (contents new) ≡ is_some (contents old) → (IsFull gate piece → ⊥) → Stores contents may_leave moment left_since gate (piece ∷ []) next old new
  one_stored old new gate next piece place end has stored told fits =
      let size : length (blocks (piece ∷ [])) ≡ 5 + length piece = omega (arith, length-append (block_of piece) [], length-block piece) in
      record {
        told = told;
        has = has;
        any_moment = one_not_stored old new piece stored;
        end = end;
        place = omega (arith, place, size);
        room = elim (cases_lt (2 ^ 30) (gate + 5 + length piece)) [
          | inl full ↦ absurd (fits full)
          | inr low ↦ inr (omega (arith, low, size))
        ];
      }

  -- ---- parts of a turn

  pub then_keeps : {S : Type 0} (r : Reached S) (next : HostState S → Reached S) (ps qs : List (List ℕ)) (before middle : UnsentState S) (result : Result (UnsentState S) TakeFault) (old mid new : D)
      → KeepsAs contents may_leave moment left_since r ps before (Ok middle) old mid → KeepsAs contents may_leave moment left_since (next r.host) qs middle result mid new
      → KeepsAs contents may_leave moment left_since (onward r next) (ps ++ qs) before result old new
  then_keeps r next ps qs before middle (Ok after) old mid new first second = (
    second.0,
    second.1 ∙ ap (λ (l : List Parcel). l ++ (next r.host).sent) first.1 ∙ append_assoc before.owed r.sent (next r.host).sent,
    stored_after old mid new before.gate middle.gate after.gate ps qs first.2 second.2,
  )
  then_keeps r next ps qs before middle (Err fault) old mid new first second = not_after old mid new before.gate middle.gate ps qs fault first.2 second

  pub fails_first : {S : Type 0} (r : Reached S) (next : HostState S → Reached S) (ps qs : List (List ℕ)) (before : UnsentState S) (fault : TakeFault) (old new : D)
      → KeepsAs contents may_leave moment left_since r ps before (Err fault) old new → KeepsAs contents may_leave moment left_since (onward r next) (ps ++ qs) before (Err fault) old new
  fails_first r next ps qs before fault old new first = not_before old new before.gate ps qs fault first
