-- A file whose records were read from its first gate on stands for them.
use Rattle.std.proofs.Common.{◌≡◌, ◌≢◌, inl, inr, ℕ, ◌+◌, true, false, cond, List, [], ◌∷◌, ◌++◌, length, map, drop, refl, sym, ◌∙◌, ap, subst, arith, append_assoc, length-append, length-drop}
use Rattle.std.proofs.lemmas.Bool.{cases_Bool, cases_eq}
use Rattle.std.proofs.lemmas.List.{drop_at, drop-drop}
use Rattle.std.specs.List.{AllByRecursion}
use Rattle.zy_base.specs.declared.ids.Digest.{Digest}
use Rattle.zy_base.specs.declared.step.Event.{Event}
use Rattle.zy_journal.specs.Disk.{StandsAt}
use Rattle.zy_journal.specs.Journal.{HasRecord, Holds, IsMarked, IsPiece, StandsFor, block_of, blocks, head_of, is_blank, mark_of, opened}
use Rattle.zy_journal.proofs.Begins.{opened_used}
use Rattle.zy_journal.proofs.Lists.{first_is, length-block, length-head, one_list, same_block, shut_blank, used_holds}
use Rattle.zy_node.specs.Events.{event_bytes}
use Rattle.zy_node.specs.Recovering.{AreListed, IsBroken, IsBrokenAt}

opened_blank : (identity : Digest) (file : List ℕ) → is_blank file ≡ true → opened identity file ≡ head_of identity ++ (0 ∷ drop 42 file)
opened_blank identity file blank = ap (λ b. cond b (head_of identity ++ (0 ∷ drop 42 file)) file) blank

-- ---- the head

marked_head : (identity : Digest) (file : List ℕ) → length identity.0 ≡ 32 → is_blank file ≡ false → IsMarked identity file → file ≡ head_of identity ++ drop 41 file
marked_head identity [] size used marked = absurd cc
marked_head identity (first ∷ rest) size used marked = elim (cases_eq first 1) [
  | inl is_open ↦
      let long : 1 + length (mark_of identity) ≡ 41 = omega (arith, size) in
      ap (λ (n : ℕ). n ∷ rest) is_open ∙ ap (λ (l : List ℕ). 1 ∷ l) (marked ∙ ap (λ (n : ℕ). mark_of identity ++ drop n (first ∷ rest)) long)
  | inr shut ↦ let blank = shut_blank first rest shut in absurd cc
]

head_of_opened : (identity : Digest) (file : List ℕ) → length identity.0 ≡ 32 → (is_blank file ≡ false → IsMarked identity file) → opened identity file ≡ head_of identity ++ drop 41 (opened identity file)
head_of_opened identity file size marked = elim (cases_Bool (is_blank file)) [
  | inl blank ↦ subst (λ (l : List ℕ). l ≡ head_of identity ++ drop 41 l) (sym (opened_blank identity file blank))
      (ap (λ (l : List ℕ). head_of identity ++ l) (sym (drop_at (head_of identity) (0 ∷ drop 42 file) 41 (length-head identity size))))
  | inr used ↦ subst (λ (l : List ℕ). l ≡ head_of identity ++ drop 41 l) (sym (opened_used identity file used)) (marked_head identity file size used (marked used))
]

-- a file that stands for records is blank or has the mark
pub marked_of : (identity : Digest) (file : List ℕ) (pieces : List (List ℕ)) → StandsFor identity file pieces → is_blank file ≡ false → IsMarked identity file
marked_of identity file pieces stands used =
    let holds = used_holds identity file pieces used stands in
    let rest = blocks pieces ++ (holds.gate ∷ holds.behind) in
    subst (λ (f : List ℕ). StandsAt (mark_of identity) 1 f) (sym holds.spelled)
    (ap (λ (l : List ℕ). mark_of identity ++ l) (sym (drop_at (head_of identity) rest (1 + length (mark_of identity)) (omega arith))))

-- ---- records that were read

pub stands_opened : (identity : Digest) (file : List ℕ) (pieces : List (List ℕ)) → length identity.0 ≡ 32 → (is_blank file ≡ false → IsMarked identity file) → AreListed (opened identity file) 41 pieces → StandsFor identity (opened identity file) pieces
stands_opened identity file pieces size marked listed =
    let now = opened identity file in
    inr (record {
      gate = listed.shut.0;
      behind = drop (41 + length (blocks pieces) + length (listed.shut.0 ∷ [])) now;
      spelled = head_of_opened identity file size marked ∙ ap (λ (l : List ℕ). head_of identity ++ l) (listed.read.stand ∙ ap (λ (l : List ℕ). blocks pieces ++ l) listed.shut.2);
      shut = listed.shut.1;
      fits = listed.read.fit;
      size = size;
    })

made_holds : (identity : Digest) (more : List ℕ) → length identity.0 ≡ 32 → Holds identity (head_of identity ++ (0 ∷ more)) []
made_holds identity more size = record { gate = 0; behind = more; spelled = refl; shut = λ e. absurd cc; fits = tt; size = size }

-- what it stands for once it is opened it stood for before
pub stood_before : (identity : Digest) (file : List ℕ) (pieces : List (List ℕ)) → length identity.0 ≡ 32 → StandsFor identity (opened identity file) pieces → StandsFor identity file pieces
stood_before identity file pieces size stands = elim (cases_Bool (is_blank file)) [
  | inl blank ↦ inl (
    blank,
    one_list identity (head_of identity ++ (0 ∷ drop 42 file)) pieces [] (subst (λ (l : List ℕ). StandsFor identity l pieces) (opened_blank identity file blank) stands) (inr (made_holds identity (drop 42 file) size)),
  )
  | inr used ↦ subst (λ (l : List ℕ). StandsFor identity l pieces) (opened_used identity file used) stands
]

-- and the other way round
pub holds_after : (identity : Digest) (file : List ℕ) (pieces : List (List ℕ)) → length identity.0 ≡ 32 → StandsFor identity file pieces → Holds identity (opened identity file) pieces
holds_after identity file pieces size stands = elim (cases_Bool (is_blank file)) [
  | inl blank ↦
      let made = made_holds identity (drop 42 file) size in
      let none : pieces ≡ [] = one_list identity file pieces [] stands (inl (blank, refl)) in
      subst (λ (l : List ℕ). Holds identity l pieces) (sym (opened_blank identity file blank)) (subst (λ (ps : List (List ℕ)). Holds identity (head_of identity ++ (0 ∷ drop 42 file)) ps) (sym none) made)
  | inr used ↦ subst (λ (l : List ℕ). Holds identity l pieces) (sym (opened_used identity file used)) (used_holds identity file pieces used stands)
]

-- ---- no open gate of it is without its record

-- behind the first of some records an open gate has the next
record HasNext (ps qs : List (List ℕ)) (behind rest : List ℕ) : Type 0 where
  piece : List ℕ
  more : List (List ℕ)
  parts : ps ≡ qs ++ piece ∷ more
  fits : IsPiece piece
  stands : behind ≡ block_of piece ++ (blocks more ++ rest)

next_record : (ps qs : List (List ℕ)) (gate : ℕ) (xs ys : List ℕ) → AllByRecursion IsPiece ps → AllByRecursion IsPiece qs → gate ≢ 1 → blocks qs ++ (1 ∷ xs) ≡ blocks ps ++ (gate ∷ ys) → HasNext ps qs (1 ∷ xs) (gate ∷ ys)
next_record [] [] gate xs ys fit fit' shut e = absurd (shut (sym (first_is 1 gate _ _ e)))
next_record [] (q ∷ qs) gate xs ys fit fit' shut e = absurd (shut (sym (first_is 1 gate _ _ e)))
next_record (p ∷ ps) [] gate xs ys fit fit' shut e = record { piece = p; more = ps; parts = refl; fits = fit.0; stands = e ∙ append_assoc (block_of p) (blocks ps) (gate ∷ ys) }
next_record (p ∷ ps) (q ∷ qs) gate xs ys fit fit' shut e =
    let both : block_of q ++ (blocks qs ++ (1 ∷ xs)) ≡ block_of p ++ (blocks ps ++ (gate ∷ ys)) =
    sym (append_assoc (block_of q) (blocks qs) (1 ∷ xs)) ∙ e ∙ append_assoc (block_of p) (blocks ps) (gate ∷ ys) in
    let same = same_block q p _ _ fit'.0 fit.0 both in
    let next = next_record ps qs gate xs ys fit.1 fit'.1 shut same.1 in
    record {
      piece = next.piece;
      more = next.more;
      parts = (λ i. (sym same.0) i ∷ next.parts i);
      fits = next.fits;
      stands = next.stands;
    }

-- one of the events spells it
spelled_in : (events : List Event) (qs : List (List ℕ)) (piece : List ℕ) (more : List (List ℕ)) → map event_bytes events ≡ qs ++ piece ∷ more → (event : Event) × (event_bytes event ≡ piece)
spelled_in [] [] piece more is = absurd cc
spelled_in [] (q ∷ qs) piece more is = absurd cc
spelled_in (event ∷ events) [] piece more is = (event, (let same : event_bytes event ≡ piece = cc in same))
spelled_in (event ∷ events) (q ∷ qs) piece more is = spelled_in events qs piece more (let rest : map event_bytes events ≡ qs ++ piece ∷ more = cc in rest)

module _ (identity : Digest) (file : List ℕ) (events : List Event) (place : ℕ) (holds : Holds identity file (map event_bytes events)) (broken : IsBrokenAt file 41 place) where
  abbrev pieces : List (List ℕ)
  pieces = map event_bytes events

  abbrev before : List (List ℕ)
  before = map event_bytes broken.events

  tail : blocks before ++ drop place file ≡ blocks pieces ++ (holds.gate ∷ holds.behind)
  tail =
      ap (λ (n : ℕ). blocks before ++ drop n file) broken.behind ∙ sym broken.read.stand
      ∙ ap (λ (l : List ℕ). drop 41 l) holds.spelled ∙ drop_at (head_of identity) (blocks pieces ++ (holds.gate ∷ holds.behind)) 41 (length-head identity holds.size)

  next_at : (xs : List ℕ) → drop place file ≡ 1 ∷ xs → HasNext pieces before (drop place file) (holds.gate ∷ holds.behind)
  next_at xs is =
      let there : blocks before ++ (1 ∷ xs) ≡ blocks pieces ++ (holds.gate ∷ holds.behind) = ap (λ (l : List ℕ). blocks before ++ l) (sym is) ∙ tail in
      subst (λ (l : List ℕ). HasNext pieces before l (holds.gate ∷ holds.behind)) (sym is) (next_record pieces before holds.gate xs holds.behind holds.fits broken.read.fit holds.shut there)

  record_at : (next : HasNext pieces before (drop place file) (holds.gate ∷ holds.behind)) → HasRecord file place next.piece
  record_at next =
      let rest = blocks next.more ++ (holds.gate ∷ holds.behind) in
      let behind : drop (place + length (block_of next.piece)) file ≡ rest =
      sym (drop-drop (length (block_of next.piece)) place file) ∙ ap (λ (l : List ℕ). drop (length (block_of next.piece)) l) next.stands ∙ drop_at (block_of next.piece) rest (length (block_of next.piece)) refl in
      record {
        fits = next.fits;
        stands = next.stands ∙ ap (λ (l : List ℕ). block_of next.piece ++ l) (sym behind);
        inside = omega (arith, ap length next.stands, length-drop place file, length-append (block_of next.piece) rest, length-append (blocks next.more) (holds.gate ∷ holds.behind), length-block next.piece);
      }

  not_this : IsBroken file place → ⊥
  not_this (inl damaged) =
      let next = next_at _ damaged.0 in
      damaged.1 next.piece (record_at next)
  not_this (inr other) =
      let has = other.1 in
      let next = next_at _ has.stands in
      let same = same_block other.0 next.piece _ _ has.fits next.fits (sym has.stands ∙ next.stands) in
      let spelled = spelled_in events before next.piece next.more next.parts in
      other.2 spelled.0 (spelled.1 ∙ sym same.0)

  pub not_broken : ⊥
  not_broken = not_this broken.broken
