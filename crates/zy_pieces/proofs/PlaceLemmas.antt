-- Where a frame stands among those that are gathered, and what a piece leaves of them.
use Rattle.std.proofs.Common.{◌≡◌, inl, inr, ℕ, zero, suc, ◌+◌, ◌-◌, ◌<◌, ◌≤◌, Bool, true, false, not, ◌&&◌, cond, nat_eq, nat_lt, List, [], ◌∷◌, ◌++◌, length, take, drop, get_or, set, Option, Some, None, refl, sym, ap, subst, ◌∙◌, arith}
use Rattle.std.specs.List.{position, prefix_len, find, list_any, cons_option, remove}
use Rattle.std.specs.Option.{option_map}
use Rattle.std.specs.Cmp.Lexicographic.{pointwise}
use Rattle.std.proofs.lemmas.Bool.{cases_Bool, cond-true, cond-false, ltb-false, eqb-true, and_parts, or_parts, or_from}
use Rattle.std.proofs.lemmas.List.{length-set, length-append, set_split, set-get_or}
use Rattle.std.proofs.lemmas.List.Quantifiers.{position-Some}
use Rattle.zy_pieces.specs.declared.gather.Gathered.{Gathered}
use Rattle.zy_pieces.specs.declared.gather.Gathered.TheVariants.{Part}
use Rattle.zy_pieces.specs.Pieces.{Piece}
use Rattle.zy_pieces.specs.Gathering.{Gathering, Settled, Added, behind, is_of, is_there, is_whole, joined, judged, with_piece, settled, placed, last_sixteen}

-- ---- options

mapped_some : {A B : Type 0} (f : A → B) (o : Option A) (y : B) → option_map f o ≡ Some y → (x : A) × (o ≡ Some x) × (f x ≡ y)
mapped_some f None y e = absurd cc
mapped_some f (Some x) y e = (x, refl, cc)

mapped_none : {A B : Type 0} (f : A → B) (o : Option A) → option_map f o ≡ None → o ≡ None
mapped_none f None e = refl
mapped_none f (Some x) e = absurd cc

same_some : {A : Type 0} (x y : A) → Some x ≡ Some y → x ≡ y
same_some x y e = cc

-- where a seventeenth begins the first is dropped
pub first_dropped : (gs : List Gathering) (g : Gathering) → length gs ≤ 16 → 16 < length (gs ++ g ∷ []) → remove (gs ++ g ∷ []) 0 ≡ last_sixteen (gs ++ g ∷ [])
first_dropped gs g most more =
    let len = length-append gs (g ∷ []) in
    let one : 1 ≡ length (gs ++ g ∷ []) - 16 = omega arith in
    ap (λ n. drop n (gs ++ g ∷ [])) one

-- ---- one frame

-- a piece leaves its frame's digest and number of pieces
pub same_key : (q p : Piece) (g : Gathering) → is_of q (with_piece p g) ≡ is_of q g
same_key q p g = ap (λ n. pointwise nat_eq q.digest.0 g.digest.0 && nat_eq q.count n) (length-set g.slots p.index (Some p.payload))

-- the outcomes of a piece
abbrev pub outcome : Bool → Bool → Gathering → Gathering → Gathered → Settled
outcome there whole g more answer =
    cond there (record { kept = Some g; answer = Part }) (cond whole (record { kept = None; answer = answer }) (record { kept = Some more; answer = Part }))

module _ (p : Piece) where
  abbrev Place : List Gathering → Gathering → Added
  Place gs g = record { frames = cons_option (settled p g).kept gs; answer = (settled p g).answer }

  own_first : (g : Gathering) (gs : List Gathering) → is_of p g ≡ true → placed p (g ∷ gs) ≡ Some (Place gs g)
  own_first g gs own = cond-true (is_of p g) (Some (Place gs g)) (option_map (behind g) (placed p gs)) own

  other_first : (g : Gathering) (gs : List Gathering) → is_of p g ≡ false → placed p (g ∷ gs) ≡ option_map (behind g) (placed p gs)
  other_first g gs other = cond-false (is_of p g) (Some (Place gs g)) (option_map (behind g) (placed p gs)) other

  -- ---- by the number of its place

  abbrev Put : List Gathering → ℕ → Gathering → Added
  Put gs at g = record { frames = take at gs ++ cons_option (settled p g).kept (drop (suc at) gs); answer = (settled p g).answer }

  placed_there : (gs : List Gathering) (at : ℕ) (d : Gathering) → at < length gs → is_of p (get_or gs at d) ≡ true → ((k : ℕ) → k < at → is_of p (get_or gs k d) ≡ false) → placed p gs ≡ Some (Put gs at (get_or gs at d))
  placed_there [] at d within own before = absurd (omega arith)
  placed_there (g ∷ gs) zero d within own before = own_first g gs own
  placed_there (g ∷ gs) (suc at) d within own before =
      other_first g gs (before 0 (omega arith))
      ∙ ap (option_map (behind g)) (placed_there gs at d (omega arith) own (λ k small. before (suc k) (omega arith)))

  pub placed_at : (gs : List Gathering) (at : ℕ) (d : Gathering) → position (is_of p) gs ≡ Some at → placed p gs ≡ Some (Put gs at (get_or gs at d))
  placed_at gs at d there = let found = position-Some (is_of p) gs at d there in placed_there gs at d found.0 found.1 found.2

  abbrev Outcome : List Gathering → ℕ → Bool → Bool → Gathering → Added
  Outcome gs at there whole g =
      let now : Settled = outcome there whole g (with_piece p g) (judged p.digest (joined (with_piece p g).slots)) in
      record { frames = take at gs ++ cons_option now.kept (drop (suc at) gs); answer = now.answer }

  placed_with : (gs : List Gathering) (at : ℕ) (d : Gathering) (there whole : Bool) → position (is_of p) gs ≡ Some at → is_there p (get_or gs at d) ≡ there → is_whole (with_piece p (get_or gs at d)).slots ≡ whole → placed p gs ≡ Some (Outcome gs at there whole (get_or gs at d))
  placed_with gs at d there whole e first second =
      placed_at gs at d e
      ∙ ap (λ b. Some (Outcome gs at b (is_whole (with_piece p (get_or gs at d)).slots) (get_or gs at d))) first
      ∙ ap (λ b. Some (Outcome gs at there b (get_or gs at d))) second

  frames_are : (a b : List Gathering) (answer : Gathered) → a ≡ b → ◌≡◌ {A = Option Added} (Some (record { frames = a; answer = answer })) (Some (record { frames = b; answer = answer }))
  frames_are a b answer e = ap (λ fs. Some (record { frames = fs; answer = answer })) e

  -- a piece that is there already
  pub stays : (gs : List Gathering) (at : ℕ) (d : Gathering) → position (is_of p) gs ≡ Some at → is_there p (get_or gs at d) ≡ true → placed p gs ≡ Some (record { frames = gs; answer = Part })
  stays gs at d e there =
      let within = (position-Some (is_of p) gs at d e).0 in
      placed_with gs at d true (is_whole (with_piece p (get_or gs at d)).slots) e there refl
      ∙ frames_are _ _ Part (sym (set_split gs at (get_or gs at d) within) ∙ set-get_or gs at d)

  -- one that leaves something missing
  pub takes : (gs : List Gathering) (at : ℕ) (d : Gathering) → position (is_of p) gs ≡ Some at → is_there p (get_or gs at d) ≡ false → is_whole (with_piece p (get_or gs at d)).slots ≡ false → placed p gs ≡ Some (record { frames = set gs at (with_piece p (get_or gs at d)); answer = Part })
  takes gs at d e new partial =
      let within = (position-Some (is_of p) gs at d e).0 in
      placed_with gs at d false false e new partial ∙ frames_are _ _ Part (sym (set_split gs at (with_piece p (get_or gs at d)) within))

  -- the last missing one
  pub leaves : (gs : List Gathering) (at : ℕ) (d : Gathering) → position (is_of p) gs ≡ Some at → is_there p (get_or gs at d) ≡ false → is_whole (with_piece p (get_or gs at d)).slots ≡ true → placed p gs ≡ Some (record { frames = remove gs at; answer = judged p.digest (joined (with_piece p (get_or gs at d)).slots) })
  leaves gs at d e new whole = placed_with gs at d false true e new whole

  -- its place is one of the frame's
  pub inside_own : (gs : List Gathering) (at : ℕ) (d : Gathering) → position (is_of p) gs ≡ Some at → p.index < p.count → p.index < length (get_or gs at d).slots
  inside_own gs at d e below =
      let own = (position-Some (is_of p) gs at d e).1 in
      let parts = and_parts (pointwise nat_eq p.digest.0 (get_or gs at d).digest.0) (nat_eq p.count (length (get_or gs at d).slots)) own in
      let same = eqb-true p.count (length (get_or gs at d).slots) parts.1 in
      omega arith

  abbrev others : List Gathering → ℕ
  others gs = prefix_len (λ g. not (is_of p g)) gs

  placed_past : (gs : List Gathering) → length gs ≤ others gs → placed p gs ≡ None
  placed_past [] past = refl
  placed_past (g ∷ gs) past =
      elim (cases_Bool (is_of p g)) [
        | inl own ↦
            let e : others (g ∷ gs) ≡ 0 = ap (λ b. cond (not b) (1 + others gs) 0) own in
            absurd (omega arith)
        | inr other ↦
            let e : others (g ∷ gs) ≡ 1 + others gs = ap (λ b. cond (not b) (1 + others gs) 0) other in
            other_first g gs other ∙ ap (option_map (behind g)) (placed_past gs (omega arith))
      ]

  none_before : (n m : ℕ) → cond (nat_lt n m) (Some n) None ≡ None → m ≤ n
  none_before n m none =
      elim (cases_Bool (nat_lt n m)) [
        | inl below ↦ let e : Some n ≡ None = sym (cond-true (nat_lt n m) (Some n) None below) ∙ none in absurd cc
        | inr not_below ↦ ltb-false n m not_below
      ]

  pub placed_nowhere : (gs : List Gathering) → position (is_of p) gs ≡ None → placed p gs ≡ None
  placed_nowhere gs none = placed_past gs (none_before (others gs) (length gs) none)

  -- ---- by its search

  pub found_own : (gs : List Gathering) (g : Gathering) → find (is_of p) gs ≡ Some g → is_of p g ≡ true
  found_own [] g e = absurd cc
  found_own (h ∷ gs) g e =
      elim (cases_Bool (is_of p h)) [
        | inl own ↦ let same : h ≡ g = same_some h g (sym (cond-true (is_of p h) (Some h) (find (is_of p) gs) own) ∙ e) in ap (is_of p) (sym same) ∙ own
        | inr other ↦ found_own gs g (sym (cond-false (is_of p h) (Some h) (find (is_of p) gs) other) ∙ e)
      ]

  pub placed_new : (gs : List Gathering) → find (is_of p) gs ≡ None → placed p gs ≡ None
  placed_new [] none = refl
  placed_new (g ∷ gs) none =
      elim (cases_Bool (is_of p g)) [
        | inl own ↦ let e : Some g ≡ None = sym (cond-true (is_of p g) (Some g) (find (is_of p) gs) own) ∙ none in absurd cc
        | inr other ↦
            other_first g gs other
            ∙ ap (option_map (behind g)) (placed_new gs (sym (cond-false (is_of p g) (Some g) (find (is_of p) gs) other) ∙ none))
      ]

  pub find_none : (gs : List Gathering) → list_any (is_of p) gs ≡ false → find (is_of p) gs ≡ None
  find_none [] none = refl
  find_none (g ∷ gs) none = let parts = or_parts (is_of p g) (list_any (is_of p) gs) none in cond-false (is_of p g) (Some g) (find (is_of p) gs) parts.0 ∙ find_none gs parts.1

  pub none_gathered : (gs : List Gathering) → placed p gs ≡ None → list_any (is_of p) gs ≡ false
  none_gathered [] none = refl
  none_gathered (g ∷ gs) none =
      elim (cases_Bool (is_of p g)) [
        | inl own ↦ let e : Some (Place gs g) ≡ None = sym (own_first g gs own) ∙ none in absurd cc
        | inr other ↦ or_from (is_of p g) (list_any (is_of p) gs) other (none_gathered gs (mapped_none (behind g) (placed p gs) (sym (other_first g gs other) ∙ none)))
      ]

  -- what a frame's own piece leaves, and the answer
  pub record Own (gs : List Gathering) (g : Gathering) : Type 0 where
    pub now : Added
    pub is : placed p gs ≡ Some now
    pub answer : now.answer ≡ (settled p g).answer
    pub kept : (more : Gathering) → (settled p g).kept ≡ Some more → is_of p more ≡ true → find (is_of p) now.frames ≡ Some more

  own_here : (g : Gathering) (gs : List Gathering) → is_of p g ≡ true → Own (g ∷ gs) g
  own_here g gs own = record {
    now = Place gs g;
    is = own_first g gs own;
    answer = refl;
    kept = λ more e its. ap (λ (k : Option Gathering). find (is_of p) (cons_option k gs)) e ∙ cond-true (is_of p more) (Some more) (find (is_of p) gs) its;
  }

  own_behind : (h g : Gathering) (gs : List Gathering) → is_of p h ≡ false → Own gs g → Own (h ∷ gs) g
  own_behind h g gs other rest = record {
    now = behind h rest.now;
    is = other_first h gs other ∙ ap (option_map (behind h)) rest.is;
    answer = rest.answer;
    kept = λ more e its. cond-false (is_of p h) (Some h) (find (is_of p) rest.now.frames) other ∙ rest.kept more e its;
  }

  pub placed_own : (gs : List Gathering) (g : Gathering) → find (is_of p) gs ≡ Some g → Own gs g
  placed_own [] g e = absurd cc
  placed_own (h ∷ gs) g e =
      elim (cases_Bool (is_of p h)) [
        | inl own ↦ let same : h ≡ g = same_some h g (sym (cond-true (is_of p h) (Some h) (find (is_of p) gs) own) ∙ e) in subst (λ (x : Gathering). Own (h ∷ gs) x) same (own_here h gs own)
        | inr other ↦ own_behind h g gs other (placed_own gs g (sym (cond-false (is_of p h) (Some h) (find (is_of p) gs) other) ∙ e))
      ]

-- ---- a piece of another frame

module _ (q p : Piece) (apart : (g : Gathering) → is_of p g ≡ true → is_of q g ≡ false) where
  outcome_other : (there whole : Bool) (g more : Gathering) (answer : Gathered) (gs : List Gathering) → is_of q g ≡ false → is_of q more ≡ false → find (is_of q) (cons_option (outcome there whole g more answer).kept gs) ≡ find (is_of q) gs
  outcome_other true whole g more answer gs first second = cond-false (is_of q g) (Some g) (find (is_of q) gs) first
  outcome_other false true g more answer gs first second = refl
  outcome_other false false g more answer gs first second = cond-false (is_of q more) (Some more) (find (is_of q) gs) second

  settled_other : (g : Gathering) (gs : List Gathering) → is_of q g ≡ false → find (is_of q) (cons_option (settled p g).kept gs) ≡ find (is_of q) gs
  settled_other g gs other = outcome_other (is_there p g) (is_whole (with_piece p g).slots) g (with_piece p g) (judged p.digest (joined (with_piece p g).slots)) gs other (same_key q p g ∙ other)

  -- leaves the search for this one as it was
  pub placed_other : (gs : List Gathering) (a : Added) → placed p gs ≡ Some a → find (is_of q) a.frames ≡ find (is_of q) gs
  placed_other [] a e = absurd cc
  placed_other (g ∷ gs) a e =
      elim (cases_Bool (is_of p g)) [
        | inl own ↦
            let same : Place p gs g ≡ a = same_some (Place p gs g) a (sym (own_first p g gs own) ∙ e) in
            ap (λ (x : Added). find (is_of q) x.frames) (sym same)
            ∙ settled_other g gs (apart g own)
            ∙ sym (cond-false (is_of q g) (Some g) (find (is_of q) gs) (apart g own))
        | inr other ↦
            let rest = mapped_some (behind g) (placed p gs) a (sym (other_first p g gs other) ∙ e) in
            ap (λ (x : Added). find (is_of q) x.frames) (sym rest.2)
            ∙ ap (cond (is_of q g) (Some g)) (placed_other gs rest.0 rest.1)
      ]
