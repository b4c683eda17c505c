-- The pieces of one frame give it back, in whatever order they come.
use Rattle.std.proofs.Common.{◌≡◌, ◌⊎◌, inl, inr, ℕ, zero, suc, ◌-◌, ◌<◌, ◌≤◌, Bool, true, false, not, ◌&&◌, nat_eq, nat_lt, List, [], ◌∷◌, ◌++◌, length, drop, replicate, get_or, set, All, Any, Contains, Option, Some, None, is_some, Result, Ok, Err, refl, sym, ap, subst, ◌∙◌, arith}
use Rattle.std.specs.List.{find}
use Rattle.std.specs.Option.{option_or, unwrap_or}
use Rattle.std.specs.Cmp.Lexicographic.{pointwise, bytes_decides}
use Rattle.std.proofs.lemmas.Bool.{cases_Bool, cases_eq, cases_lt, both_ways, cond-true, cond-false, eq-eqb, ne_eqb, eqb-true, lt-ltb, and_parts, and_from, false_from_ne_true, not_from_false}
use Rattle.std.proofs.lemmas.List.{length-set, length-replicate, length-append, get_or-replicate, get_or-set_same, get_or-set_other, get_or_default, get_or_past, take_all}
use Rattle.std.proofs.lemmas.List.Folds.{find-append, list_all_at}
use Rattle.std.proofs.lemmas.List.Sums.{list_all-from_AllPass}
use Rattle.sha2.specs.Sha256.{sha256}
use Rattle.zy_base.specs.declared.ids.Digest.{Digest}
use Rattle.zy_pieces.specs.declared.piece.PieceFault.{PieceFault}
use Rattle.zy_pieces.specs.declared.piece.PieceFault.TheVariants as fault
use Rattle.zy_pieces.specs.declared.gather.Gathered.TheVariants.{Whole, Refused}
use Rattle.zy_pieces.specs.Pieces.{Piece, piece_of, piece_at, payload_at, count_of}
use Rattle.zy_pieces.specs.Gathering.{Gathering, Added, is_of, is_there, is_whole, joined, judged, with_piece, nothing_of, begun, settled, placed, last_sixteen, begin, taken, added, answers}
use Rattle.zy_pieces.specs.Order.{is_gathered, begins_with, HasRoom, Brings, IsOwn, AreAllThere}
use Rattle.zy_pieces.proofs.SlotLemmas.{Slot, joined_parts}
use Rattle.zy_pieces.proofs.PlaceLemmas.{Own, outcome, same_key, found_own, placed_new, find_none, none_gathered, placed_own, placed_other}
use Rattle.zy_pieces.proofs.PieceLemmas.{piece_below}

-- ---- one datagram of several

any_first : {A : Type 0} (P : A → Type 0) (x : A) (xs : List A) → Any P (x ∷ xs) → P x ⊎ Any P xs
any_first P x xs (zero, y, small, e, holds) = inl (subst P (sym e) holds)
any_first P x xs (suc k, y, small, e, holds) = inr (k, y, omega arith, e, holds)

rest_of : {A : Type 0} (P : A → Type 0) (x : A) (xs : List A) → All P (x ∷ xs) → All P xs
rest_of P x xs all k d small = all (suc k) d (omega arith)

contains_first : {A : Type 0} (x y : A) (xs : List A) → x ≡ y → Contains (x ∷ xs) y
contains_first x y xs e = (0, omega arith, e)

contains_rest : {A : Type 0} (x y : A) (xs : List A) → Contains xs y → Contains (x ∷ xs) y
contains_rest x y xs (k, small, e) = (suc k, omega arith, e)

nowhere : {A : Type 0} (P : A → Type 0) → Any P [] → ⊥
nowhere P (k, x, small, e, holds) = absurd (omega arith)

no_piece : (p : Piece) (cause : PieceFault) (r : Result Piece PieceFault) → r ≡ Err cause → r ≡ Ok p → ⊥
no_piece p cause r a b = cc

-- ---- a frame begins

fewer : (gs : List Gathering) (g : Gathering) → length gs < 16 → last_sixteen (gs ++ g ∷ []) ≡ gs ++ g ∷ []
fewer gs g small =
    let len = length-append gs (g ∷ []) in
    let none : length (gs ++ g ∷ []) - 16 ≡ 0 = omega arith in
    ap (λ n. drop n (gs ++ g ∷ [])) none

own_key : (p : Piece) → is_of p (begun p) ≡ true
own_key p = same_key p p (nothing_of p) ∙ and_from (pointwise nat_eq p.digest.0 p.digest.0) (nat_eq p.count (length (nothing_of p).slots)) ((bytes_decides p.digest.0 p.digest.0).1 refl) (eq-eqb _ _ (sym (length-replicate p.count None)))

-- what a datagram of several pieces comes to
several : (gs : List Gathering) (datagram : List ℕ) (p : Piece) → piece_of datagram ≡ Ok p → (p.count ≡ 1 → ⊥) → added gs datagram ≡ unwrap_or (placed p gs) (begin p gs)
several gs datagram p e more = ap (taken gs) e ∙ cond-false (nat_eq p.count 1) (record { frames = gs; answer = judged p.digest p.payload }) (unwrap_or (placed p gs) (begin p gs)) (ne_eqb _ _ more)

single : (gs : List Gathering) (datagram : List ℕ) (p : Piece) → piece_of datagram ≡ Ok p → p.count ≡ 1 → added gs datagram ≡ record { frames = gs; answer = judged p.digest p.payload }
single gs datagram p e one = ap (taken gs) e ∙ cond-true (nat_eq p.count 1) (record { frames = gs; answer = judged p.digest p.payload }) (unwrap_or (placed p gs) (begin p gs)) (eq-eqb _ _ one)

-- a frame that begins stands behind the others, where there is room
begins : (gs : List Gathering) (datagram : List ℕ) (datagrams : List (List ℕ)) (p : Piece) → piece_of datagram ≡ Ok p → (p.count ≡ 1 → ⊥) → placed p gs ≡ None → HasRoom gs (datagram ∷ datagrams) → (added gs datagram).frames ≡ gs ++ begun p ∷ []
begins gs datagram datagrams p e more none room =
    let below = piece_below datagram p e in
    let starts : begins_with gs (piece_of datagram) ≡ true = ap (begins_with gs) e ∙ and_from (nat_lt 1 p.count) (not (is_gathered p gs)) (lt-ltb _ _ (omega arith)) (not_from_false _ (none_gathered p gs none)) in
    ap (λ (a : Added). a.frames) (several gs datagram p e more ∙ ap (λ (o : Option Added). unwrap_or o (begin p gs)) none)
    ∙ fewer gs (begun p) (room.0 starts)

module _ (frame : List ℕ) where
  abbrev first : Piece
  first = piece_at frame 0

  abbrev count : ℕ
  count = count_of frame

  abbrev Holds : List Slot → ℕ → Type 0
  Holds slots i = get_or slots i None ≡ Some (payload_at frame i)

  -- the slots hold the frame's parts or nothing, and something is missing
  record IsPartly (slots : List Slot) : Type 0 where
    len : length slots ≡ count
    parts : (i : ℕ) → i < count → (get_or slots i None ≡ None) ⊎ Holds slots i
    not_whole : is_whole slots ≡ false

  -- the slots are those of the frame, or it isn't being gathered
  abbrev AreHeld : List Gathering → List Slot → Type 0
  AreHeld gs slots = ((find (is_of first) gs ≡ None) × (slots ≡ replicate count None)) ⊎ ((g : Gathering) × (find (is_of first) gs ≡ Some g) × (g.slots ≡ slots))

  record IsReady (gs : List Gathering) (slots : List Slot) (datagrams : List (List ℕ)) : Type 0 where
    held : AreHeld gs slots
    partly : IsPartly slots
    coming : (i : ℕ) → i < count → Holds slots i ⊎ Any (Brings frame i) datagrams
    no_other : All (IsOwn frame) datagrams
    room : HasRoom gs datagrams

  -- ---- slots

  filled : (slots : List Slot) → length slots ≡ count → ((i : ℕ) → i < count → Holds slots i) → is_whole slots ≡ true
  filled slots len all = list_all-from_AllPass is_some slots (λ k d small.
      ap is_some (get_or_default slots k d None small ∙ all k (omega arith)))

  -- whole slots hold the frame
  whole_is : (slots : List Slot) → length slots ≡ count → ((i : ℕ) → i < count → (get_or slots i None ≡ None) ⊎ Holds slots i) → is_whole slots ≡ true → joined slots ≡ frame
  whole_is slots len parts whole = joined_parts slots frame (omega arith) (λ i small.
      elim (parts i (omega arith)) [
        | inl none ↦ absurd (both_ways _ (list_all_at is_some slots i None small (ap is_some none)) whole)
        | inr holds ↦ holds
      ])

  with_part : (slots : List Slot) (j : ℕ) → length slots ≡ count → j < count → ((i : ℕ) → i < count → (get_or slots i None ≡ None) ⊎ Holds slots i)
      → (i : ℕ) → i < count → (get_or (set slots j (Some (payload_at frame j))) i None ≡ None) ⊎ Holds (set slots j (Some (payload_at frame j))) i
  with_part slots j len within parts i small =
      elim (cases_eq i j) [
        | inl same ↦ inr (subst (λ (k : ℕ). Holds (set slots j (Some (payload_at frame j))) k) (sym same) (get_or-set_same slots j (Some (payload_at frame j)) None (omega arith)))
        | inr other ↦
            let e = get_or-set_other slots j i (Some (payload_at frame j)) None other in
            elim (parts i small) [ inl none ↦ inl (e ∙ none) | inr holds ↦ inr (e ∙ holds) ]
      ]

  brought_there : (slots : List Slot) (j i : ℕ) → length slots ≡ count → j < count → i ≡ j → Holds (set slots j (Some (payload_at frame j))) i
  brought_there slots j i len within same = subst (λ (k : ℕ). Holds (set slots j (Some (payload_at frame j))) k) (sym same) (get_or-set_same slots j (Some (payload_at frame j)) None (omega arith))

  nothing_held : (slots : List Slot) (i : ℕ) → slots ≡ replicate count None → Holds slots i → ⊥
  nothing_held slots i empty holds =
      elim (cases_lt i count) [
        | inl small ↦ let e : None ≡ Some (payload_at frame i) = sym (get_or-replicate count i None None small) ∙ ap (λ (s : List Slot). get_or s i None) (sym empty) ∙ holds in cc
        | inr past ↦ let e : None ≡ Some (payload_at frame i) = sym (get_or_past (replicate count None) i None (omega (arith, length-replicate {A = Slot} count None))) ∙ ap (λ (s : List Slot). get_or s i None) (sym empty) ∙ holds in cc
      ]

  -- another place than this
  elsewhere : ℕ → ℕ
  elsewhere j = 1 - j

  one_missing : (j : ℕ) → 2 ≤ count → j < count → is_whole (set (replicate count None) j (Some (payload_at frame j))) ≡ false
  unfolding elsewhere
  one_missing j many within =
      let other : elsewhere j ≡ j → ⊥ = λ e. omega arith in
      let k : elsewhere j < count = omega arith in
      let len = length-set (replicate count None) j (Some (payload_at frame j)) ∙ length-replicate count None in
      list_all_at is_some (set (replicate count None) j (Some (payload_at frame j))) (elsewhere j) None (omega arith)
      (ap is_some (get_or-set_other (replicate count None) j (elsewhere j) (Some (payload_at frame j)) None other ∙ get_or-replicate count (elsewhere j) None None k))

  still_there : (slots : List Slot) (j i : ℕ) → length slots ≡ count → j < count → Holds slots i → Holds (set slots j (Some (payload_at frame j))) i
  still_there slots j i len within holds =
      elim (cases_eq i j) [
        | inl same ↦ subst (λ (k : ℕ). Holds (set slots j (Some (payload_at frame j))) k) (sym same) (get_or-set_same slots j (Some (payload_at frame j)) None (omega arith))
        | inr other ↦ get_or-set_other slots j i (Some (payload_at frame j)) None other ∙ holds
      ]

  -- ---- one datagram more

  same_index : (i j : ℕ) → piece_at frame i ≡ piece_at frame j → i ≡ j
  same_index i j e = ap (λ (p : Piece). p.index) e

  ok_is : (p q : Piece) (r : Result Piece PieceFault) → r ≡ Ok p → r ≡ Ok q → p ≡ q
  ok_is p q r a b = cc

  -- the slots from then on, which hold what the datagram brings
  next : (gs : List Gathering) (slots more : List Slot) (datagram : List ℕ) (datagrams : List (List ℕ)) → IsReady gs slots (datagram ∷ datagrams)
      → AreHeld (added gs datagram).frames more → IsPartly more → ((i : ℕ) → Holds slots i → Holds more i) → ((i : ℕ) → i < count → Brings frame i datagram → Holds more i)
      → IsReady (added gs datagram).frames more datagrams
  next gs slots more datagram datagrams ready held partly keeps brought = record {
    held = held;
    partly = partly;
    coming = λ i small. elim (ready.coming i small) [
      | inl holds ↦ inl (keeps i holds)
      | inr any ↦ elim (any_first (Brings frame i) datagram datagrams any) [ inl brings ↦ inl (brought i small brings) | inr later ↦ inr later ]
    ];
    no_other = rest_of (IsOwn frame) datagram datagrams ready.no_other;
    room = ready.room.1;
  }

  held_still : (gs more : List Gathering) (slots : List Slot) → find (is_of first) more ≡ find (is_of first) gs → AreHeld gs slots → AreHeld more slots
  held_still gs more slots e (inl none) = inl (e ∙ none.0, none.1)
  held_still gs more slots e (inr some) = inr (some.0, e ∙ some.1, some.2)

  -- one that is none of the frame's pieces
  unconcerned : (gs : List Gathering) (slots : List Slot) (datagram : List ℕ) (datagrams : List (List ℕ)) → IsReady gs slots (datagram ∷ datagrams)
      → find (is_of first) (added gs datagram).frames ≡ find (is_of first) gs → ((i : ℕ) → i < count → Brings frame i datagram → ⊥)
      → IsReady (added gs datagram).frames slots datagrams
  unconcerned gs slots datagram datagrams ready same never =
      next gs slots slots datagram datagrams ready (held_still gs _ slots same ready.held) ready.partly (λ i holds. holds) (λ i small brings. absurd (never i small brings))

  -- ---- one of the frame's pieces

  -- its first
  opening : (gs : List Gathering) (slots : List Slot) (datagram : List ℕ) (datagrams : List (List ℕ)) (j : ℕ) → 2 ≤ count → j < count → IsReady gs slots (datagram ∷ datagrams) → Brings frame j datagram
      → find (is_of first) gs ≡ None → slots ≡ replicate count None
      → IsReady (added gs datagram).frames (begun (piece_at frame j)).slots datagrams
  opening gs slots datagram datagrams j many within ready brings none empty =
      let p : Piece = piece_at frame j in
      let blank : List Slot = replicate count None in
      let len : length blank ≡ count = length-replicate count None in
      let frames = begins gs datagram datagrams p brings (λ one. omega arith) (placed_new p gs none) ready.room in
      let there : find (is_of first) (gs ++ begun p ∷ []) ≡ Some (begun p) =
      find-append (is_of first) gs (begun p ∷ [])
      ∙ ap (λ (o : Option Gathering). option_or o (find (is_of first) (begun p ∷ []))) none
      ∙ cond-true (is_of first (begun p)) (Some (begun p)) None (own_key p) in
      let empties : (i : ℕ) → i < count → (get_or blank i None ≡ None) ⊎ Holds blank i = λ i small. inl (get_or-replicate count i None None small) in
      next gs slots (begun p).slots datagram datagrams ready
      (inr (begun p, ap (λ (fs : List Gathering). find (is_of first) fs) frames ∙ there, refl))
      (record {
        len = length-set blank j (Some (payload_at frame j)) ∙ len;
        parts = with_part blank j len within empties;
        not_whole = one_missing j many within;
      })
      (λ i holds. absurd (nothing_held slots i empty holds))
      (λ i small again. brought_there blank j i len within (same_index i j (ok_is (piece_at frame i) (piece_at frame j) (piece_of datagram) again brings)))

  -- one more, which is there already
  already : (gs : List Gathering) (g : Gathering) (datagram : List ℕ) (datagrams : List (List ℕ)) (j : ℕ) → IsReady gs g.slots (datagram ∷ datagrams) → Brings frame j datagram → (own : Own (piece_at frame j) gs g)
      → added gs datagram ≡ own.now → is_of first g ≡ true → is_there (piece_at frame j) g ≡ true → IsReady (added gs datagram).frames g.slots datagrams
  already gs g datagram datagrams j ready brings own now its there =
      let p : Piece = piece_at frame j in
      let kept : (settled p g).kept ≡ Some g = ap (λ b. (outcome b (is_whole (with_piece p g).slots) g (with_piece p g) (judged p.digest (joined (with_piece p g).slots))).kept) there in
      next gs g.slots g.slots datagram datagrams ready
      (inr (g, ap (λ (a : Added). find (is_of first) a.frames) now ∙ own.kept g kept its, refl))
      ready.partly
      (λ i holds. holds)
      (λ i small again.
      let same = same_index i j (ok_is (piece_at frame i) (piece_at frame j) (piece_of datagram) again brings) in
      elim (ready.partly.parts i small) [
        | inl none ↦ absurd (both_ways _ (ap is_some none) (ap (λ (k : ℕ). is_some (get_or g.slots k None)) same ∙ there))
        | inr holds ↦ holds
      ])

  -- which leaves something missing
  one_more : (gs : List Gathering) (g : Gathering) (datagram : List ℕ) (datagrams : List (List ℕ)) (j : ℕ) → j < count → IsReady gs g.slots (datagram ∷ datagrams) → Brings frame j datagram → (own : Own (piece_at frame j) gs g)
      → added gs datagram ≡ own.now → is_of first g ≡ true → is_there (piece_at frame j) g ≡ false → is_whole (with_piece (piece_at frame j) g).slots ≡ false
      → IsReady (added gs datagram).frames (with_piece (piece_at frame j) g).slots datagrams
  one_more gs g datagram datagrams j within ready brings own now its lacking partial =
      let p : Piece = piece_at frame j in
      let more : Gathering = with_piece p g in
      let kept : (settled p g).kept ≡ Some more =
      ap (λ b. (outcome b (is_whole more.slots) g more (judged p.digest (joined more.slots))).kept) lacking
      ∙ ap (λ b. (outcome false b g more (judged p.digest (joined more.slots))).kept) partial in
      let len = ready.partly.len in
      next gs g.slots more.slots datagram datagrams ready
      (inr (more, ap (λ (a : Added). find (is_of first) a.frames) now ∙ own.kept more kept (same_key first p g ∙ its), refl))
      (record {
        len = length-set g.slots j (Some (payload_at frame j)) ∙ len;
        parts = with_part g.slots j len within ready.partly.parts;
        not_whole = partial;
      })
      (λ i holds. still_there g.slots j i len within holds)
      (λ i small again. brought_there g.slots j i len within (same_index i j (ok_is (piece_at frame i) (piece_at frame j) (piece_of datagram) again brings)))

  accepted : (bytes : List ℕ) → bytes ≡ frame → judged (piece_at frame 0).digest bytes ≡ Whole frame
  accepted bytes e = ap (judged (piece_at frame 0).digest) e ∙ cond-true (pointwise nat_eq (sha256 frame) (sha256 frame)) (Whole frame) (Refused fault.Digest) ((bytes_decides (sha256 frame) (sha256 frame)).1 refl)

  -- with which the frame is whole
  completes : (g : Gathering) (j : ℕ) → j < count → IsPartly g.slots → is_there (piece_at frame j) g ≡ false → is_whole (with_piece (piece_at frame j) g).slots ≡ true → (settled (piece_at frame j) g).answer ≡ Whole frame
  completes g j within partly lacking whole =
      let p : Piece = piece_at frame j in
      let more : Gathering = with_piece p g in
      let len = length-set g.slots j (Some (payload_at frame j)) ∙ partly.len in
      ap (λ b. (outcome b (is_whole more.slots) g more (judged p.digest (joined more.slots))).answer) lacking
      ∙ ap (λ b. (outcome false b g more (judged p.digest (joined more.slots))).answer) whole
      ∙ accepted (joined more.slots) (whole_is more.slots len (with_part g.slots j partly.len within partly.parts) whole)

  abbrev Step : List Gathering → List ℕ → List (List ℕ) → Type 0
  Step gs datagram datagrams = ((more : List Slot) × IsReady (added gs datagram).frames more datagrams) ⊎ ((added gs datagram).answer ≡ Whole frame)

  going_on : (gs : List Gathering) (g : Gathering) (datagram : List ℕ) (datagrams : List (List ℕ)) (j : ℕ) → 2 ≤ count → j < count → IsReady gs g.slots (datagram ∷ datagrams) → Brings frame j datagram
      → find (is_of first) gs ≡ Some g → Step gs datagram datagrams
  going_on gs g datagram datagrams j many within ready brings found =
      let p : Piece = piece_at frame j in
      let own = placed_own p gs g found in
      let now : added gs datagram ≡ own.now = several gs datagram p brings (λ one. omega arith) ∙ ap (λ (o : Option Added). unwrap_or o (begin p gs)) own.is in
      let its : is_of first g ≡ true = found_own first gs g found in
      elim (cases_Bool (is_there p g)) [
        | inl there ↦ inl (g.slots, already gs g datagram datagrams j ready brings own now its there)
        | inr lacking ↦ elim (cases_Bool (is_whole (with_piece p g).slots)) [
          | inl whole ↦ inr (ap (λ (a : Added). a.answer) now ∙ own.answer ∙ completes g j within ready.partly lacking whole)
          | inr partial ↦ inl ((with_piece p g).slots, one_more gs g datagram datagrams j within ready brings own now its lacking partial)
        ]
      ]

  own_step : (gs : List Gathering) (slots : List Slot) (datagram : List ℕ) (datagrams : List (List ℕ)) (j : ℕ) → 2 ≤ count → j < count → IsReady gs slots (datagram ∷ datagrams) → Brings frame j datagram → AreHeld gs slots → Step gs datagram datagrams
  own_step gs slots datagram datagrams j many within ready brings (inl none) = inl ((begun (piece_at frame j)).slots, opening gs slots datagram datagrams j many within ready brings none.0 none.1)
  own_step gs slots datagram datagrams j many within ready brings (inr some) =
      going_on gs some.0 datagram datagrams j many within (subst (λ (s : List Slot). IsReady gs s (datagram ∷ datagrams)) (sym some.2) ready) brings some.1

  -- ---- a piece of another frame

  abbrev has_key : Piece → Bool
  has_key p = pointwise nat_eq p.digest.0 (sha256 frame) && nat_eq p.count count

  apart : (p : Piece) → has_key p ≡ false → (g : Gathering) → is_of p g ≡ true → is_of first g ≡ false
  apart p other g own =
      false_from_ne_true _ (λ its.
      let a = and_parts (pointwise nat_eq p.digest.0 g.digest.0) (nat_eq p.count (length g.slots)) own in
      let b = and_parts (pointwise nat_eq (sha256 frame) g.digest.0) (nat_eq count (length g.slots)) its in
      let digest : p.digest.0 ≡ sha256 frame = (bytes_decides p.digest.0 g.digest.0).0 a.0 ∙ sym ((bytes_decides (sha256 frame) g.digest.0).0 b.0) in
      let number : p.count ≡ count = eqb-true _ _ a.1 ∙ sym (eqb-true _ _ b.1) in
      both_ways _ other (and_from (pointwise nat_eq p.digest.0 (sha256 frame)) (nat_eq p.count count) ((bytes_decides p.digest.0 (sha256 frame)).1 digest) (eq-eqb _ _ number)))

  own_has_key : (i : ℕ) → has_key (piece_at frame i) ≡ true
  own_has_key i = and_from (pointwise nat_eq (sha256 frame) (sha256 frame)) (nat_eq count count) ((bytes_decides (sha256 frame) (sha256 frame)).1 refl) (eq-eqb _ _ refl)

  or_none : (o : Option Gathering) → option_or o None ≡ o
  or_none None = refl
  or_none (Some g) = refl

  other_found : (gs : List Gathering) (datagram : List ℕ) (datagrams : List (List ℕ)) (p : Piece) (o : Option Added) → piece_of datagram ≡ Ok p → (p.count ≡ 1 → ⊥) → HasRoom gs (datagram ∷ datagrams) → has_key p ≡ false → placed p gs ≡ o
      → find (is_of first) (added gs datagram).frames ≡ find (is_of first) gs
  other_found gs datagram datagrams p None e more room other is =
      ap (λ (fs : List Gathering). find (is_of first) fs) (begins gs datagram datagrams p e more is room)
      ∙ find-append (is_of first) gs (begun p ∷ [])
      ∙ ap (option_or (find (is_of first) gs)) (cond-false (is_of first (begun p)) (Some (begun p)) None (apart p other (begun p) (own_key p)))
      ∙ or_none (find (is_of first) gs)
  other_found gs datagram datagrams p (Some a) e more room other is =
      ap (λ (x : Added). find (is_of first) x.frames) (several gs datagram p e more ∙ ap (λ (o : Option Added). unwrap_or o (begin p gs)) is)
      ∙ placed_other first p (apart p other) gs a is

  -- ---- all of them

  piece_step : (gs : List Gathering) (slots : List Slot) (datagram : List ℕ) (datagrams : List (List ℕ)) (p : Piece) → 2 ≤ count → IsReady gs slots (datagram ∷ datagrams) → piece_of datagram ≡ Ok p → Step gs datagram datagrams
  piece_step gs slots datagram datagrams p many ready e =
      elim (cases_eq p.count 1) [
        | inl one ↦ inl (
          slots,
          unconcerned gs slots datagram datagrams ready
              (ap (λ (a : Added). find (is_of first) a.frames) (single gs datagram p e one))
              (λ i small brings. let same : count ≡ p.count = ap (λ (q : Piece). q.count) (ok_is (piece_at frame i) p (piece_of datagram) brings e) in absurd (omega arith)),
        )
        | inr more ↦ elim (cases_Bool (has_key p)) [
          | inl own ↦
              let parts = and_parts (pointwise nat_eq p.digest.0 (sha256 frame)) (nat_eq p.count count) own in
              let digest : p.digest ≡ (piece_at frame 0).digest = ap (λ (b : List ℕ). let d : Digest = record { 0 = b } in d) ((bytes_decides p.digest.0 (sha256 frame)).0 parts.0) in
              let number : p.count ≡ count = eqb-true _ _ parts.1 in
              let same : p ≡ piece_at frame p.index = ready.no_other 0 [] (omega arith) p e digest number in
              let below = piece_below datagram p e in
              own_step gs slots datagram datagrams p.index many (omega arith) ready (e ∙ ap Ok same) ready.held
          | inr other ↦ inl (
            slots,
            unconcerned gs slots datagram datagrams ready
                (other_found gs datagram datagrams p (placed p gs) e more ready.room other refl)
                (λ i small brings. absurd (both_ways _ other (ap has_key (ok_is p (piece_at frame i) (piece_of datagram) e brings) ∙ own_has_key i))),
          )
        ]
      ]

  one_step : (gs : List Gathering) (slots : List Slot) (datagram : List ℕ) (datagrams : List (List ℕ)) (r : Result Piece PieceFault) → 2 ≤ count → IsReady gs slots (datagram ∷ datagrams) → piece_of datagram ≡ r → Step gs datagram datagrams
  one_step gs slots datagram datagrams (Ok p) many ready e = piece_step gs slots datagram datagrams p many ready e
  one_step gs slots datagram datagrams (Err cause) many ready e =
      inl (slots, unconcerned gs slots datagram datagrams ready (ap (λ r. find (is_of first) (taken gs r).frames) e) (λ i small brings. no_piece (piece_at frame i) cause (piece_of datagram) e brings))

  gives_back : (datagrams : List (List ℕ)) (gs : List Gathering) (slots : List Slot) → 2 ≤ count → IsReady gs slots datagrams → Contains (answers gs datagrams) (Whole frame)
  gives_back [] gs slots many ready =
      let all : (i : ℕ) → i < count → Holds slots i = λ i small. elim (ready.coming i small) [ inl holds ↦ holds | inr any ↦ absurd (nowhere (Brings frame i) any) ] in
      absurd (both_ways _ ready.partly.not_whole (filled slots ready.partly.len all))
  gives_back (datagram ∷ datagrams) gs slots many ready =
      elim (one_step gs slots datagram datagrams (piece_of datagram) many ready refl) [
        | inl later ↦ contains_rest (added gs datagram).answer (Whole frame) (answers (added gs datagram).frames datagrams) (gives_back datagrams (added gs datagram).frames later.0 many later.1)
        | inr whole ↦ contains_first (added gs datagram).answer (Whole frame) (answers (added gs datagram).frames datagrams) whole
      ]

  -- a frame of one piece
  at_once : (datagrams : List (List ℕ)) (gs : List Gathering) → count ≡ 1 → Any (Brings frame 0) datagrams → Contains (answers gs datagrams) (Whole frame)
  at_once [] gs one any = absurd (nowhere (Brings frame 0) any)
  at_once (datagram ∷ datagrams) gs one any =
      elim (any_first (Brings frame 0) datagram datagrams any) [
        | inl brings ↦ contains_first (added gs datagram).answer (Whole frame) (answers (added gs datagram).frames datagrams)
            (ap (λ (a : Added). a.answer) (single gs datagram (piece_at frame 0) brings one) ∙ accepted (payload_at frame 0) (take_all 8192 frame (omega arith)))
        | inr later ↦ contains_rest (added gs datagram).answer (Whole frame) (answers (added gs datagram).frames datagrams) (at_once datagrams (added gs datagram).frames one later)
      ]

  nothing_yet : (gs : List Gathering) (datagrams : List (List ℕ)) → 2 ≤ count → AreAllThere frame gs datagrams → IsReady gs (replicate count None) datagrams
  nothing_yet gs datagrams many there =
      let len : length (replicate count None) ≡ count = length-replicate count None in
      record {
        held = inl (find_none first gs there.new, refl);
        partly = record {
          len = len;
          parts = λ i small. inl (get_or-replicate count i None None small);
          not_whole = list_all_at is_some (replicate count None) 0 None (omega arith) (ap is_some (get_or-replicate count 0 None None (omega arith)));
        };
        coming = λ i small. inr (there.each i small);
        no_other = there.no_other;
        room = there.room;
      }

  pub in_any_order : (gs : List Gathering) (datagrams : List (List ℕ)) → AreAllThere frame gs datagrams → Contains (answers gs datagrams) (Whole frame)
  in_any_order gs datagrams there =
      let some = there.some_byte in
      elim (cases_eq count 1) [
        | inl one ↦ at_once datagrams gs one (there.each 0 (omega arith))
        | inr more ↦ let many : 2 ≤ count = omega arith in gives_back datagrams gs (replicate count None) many (nothing_yet gs datagrams many there)
      ]
