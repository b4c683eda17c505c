-- Replicas that are out of their seats.
use Rattle.std.proofs.Common.{◌≡◌, ◌≢◌, ℕ, zero, suc, Bool, true, false, List, [], ◌∷◌, ◌++◌, length, map, Option, Some, None, refl, sym, ap, ◌∙◌, subst, append_assoc, append-nil, arith}
use Rattle.std.specs.Prelude.{slice_get, slice_set, slice_index_or, option_map, unwrap_or}
use Rattle.std.specs.Fork.{GivesJobs}
use Rattle.std.specs.List.{AllZip}
use denote.Param.Members.{Shared}
use Rattle.std.proofs.lemmas.List.{map-set}
use Rattle.std.proofs.lemmas.Option.{slice_get-map, unwrap_or-slice_get}
use Rattle.zy_base.specs.declared.ids.Party.{Party}
use Rattle.zy_base.specs.declared.ids.Party.TheVariants as parties
use Rattle.zy_world.specs.Ahead.{is_free, with_taken, AreApart, out_for, AreOut, takes_for}
use Rattle.zy_world.specs.declared.batch.Due.{Due}
use Rattle.zy_world_law.proofs.Seats.{get_set_other}
use Rattle.zy_world_law.specs.World.{is_told}

-- two seats are set in either order
set_both : {A : Type 0} (xs : List A) (i j : ℕ) (x y : A) → j ≢ i → slice_set (slice_set xs i x) j y ≡ slice_set (slice_set xs j y) i x
set_both [] i j x y other = refl
set_both (first ∷ xs) zero zero x y other = absurd (other refl)
set_both (first ∷ xs) zero (suc j) x y other = refl
set_both (first ∷ xs) (suc i) zero x y other = refl
set_both {A = A} (first ∷ xs) (suc i) (suc j) x y other = ap (λ (l : List A). first ∷ l) (set_both xs i j x y (λ same. other (ap suc same)))

-- ---- a replica comes back to its seat, and the others stay out

module _ {S X : Type 0} (P : S → List ℕ → X → Type 0) (id : ℕ) (a : S) where
  apart : (seats : List (Option S)) (other : ℕ) (s : S) → slice_get seats id ≡ Some None → slice_get seats other ≡ Some (Some s) → other ≢ id
  apart seats other s empty there same =
      let both : Some None ≡ Some (Some s) = sym empty ∙ ap (λ (n : ℕ). slice_get seats n) (sym same) ∙ there in cc

  back_for : (to : Party) (bytes : List ℕ) (rest rest' : List (Option S) → List X → Type 0)
      → ((seats : List (Option S)) (items : List X) → slice_get seats id ≡ Some None → rest seats items → rest' (slice_set seats id (Some a)) items)
      → (seats : List (Option S)) (items : List X) → slice_get seats id ≡ Some None → out_for P to bytes rest seats items → out_for P to bytes rest' (slice_set seats id (Some a)) items
  back_for (parties.Client other) bytes rest rest' on seats items empty out = on seats items empty out
  back_for (parties.Replica other) bytes rest rest' on seats [] empty out = absurd out
  back_for (parties.Replica other) bytes rest rest' on seats (item ∷ items) empty out =
      let s = out.0 in
      let not_it = apart seats other.0 s empty out.1 in
      let behind = on (slice_set seats other.0 None) items (get_set_other seats other.0 id None (λ same. not_it (sym same)) ∙ empty) out.3 in (
        s,
        get_set_other seats id other.0 (Some a) not_it ∙ out.1,
        out.2,
        subst (λ (l : List (Option S)). rest' l items) (sym (set_both seats id other.0 (Some a) None not_it)) behind,
      )

  pub comes_back : (left : List (Option S)) (frames : List Due) (seats : List (Option S)) (items : List X) → slice_get seats id ≡ Some None → AreOut P left frames seats items
      → AreOut P (slice_set left id (Some a)) frames (slice_set seats id (Some a)) items
  comes_back left [] seats items empty out = (ap (λ (l : List (Option S)). slice_set l id (Some a)) out.0, out.1)
  comes_back left (due ∷ frames) seats items empty out =
      back_for due.to due.bytes (AreOut P left frames) (AreOut P (slice_set left id (Some a)) frames) (comes_back left frames) seats items empty out

-- ---- what is known of each item that is out

module _ {S X Y : Type 0} (P : S → List ℕ → X → Type 0) (Q : S → List ℕ → Y → Type 0) (Z : X → Y → Type 0) (turns : (s : S) (bytes : List ℕ) (x : X) (y : Y) → P s bytes x → Z x y → Q s bytes y) where
  made_for : (to : Party) (bytes : List ℕ) (rest : List (Option S) → List X → Type 0) (rest' : List (Option S) → List Y → Type 0)
      → ((seats : List (Option S)) (xs : List X) (ys : List Y) → rest seats xs → AllZip Z xs ys → rest' seats ys)
      → (seats : List (Option S)) (xs : List X) (ys : List Y) → out_for P to bytes rest seats xs → AllZip Z xs ys → out_for Q to bytes rest' seats ys
  made_for (parties.Client id) bytes rest rest' on seats xs ys out zip = on seats xs ys out zip
  made_for (parties.Replica id) bytes rest rest' on seats [] ys out zip = absurd out
  made_for (parties.Replica id) bytes rest rest' on seats (x ∷ xs) [] out zip = absurd zip
  made_for (parties.Replica id) bytes rest rest' on seats (x ∷ xs) (y ∷ ys) out zip =
      (out.0, out.1, turns out.0 bytes x y out.2 zip.0, on (slice_set seats id.0 None) xs ys out.3 zip.1)

  none_made : (xs : List X) (ys : List Y) → xs ≡ [] → AllZip Z xs ys → ys ≡ []
  none_made [] [] none zip = refl
  none_made [] (y ∷ ys) none zip = absurd zip
  none_made (x ∷ xs) ys none zip = absurd cc

  pub all_made : (left : List (Option S)) (frames : List Due) (seats : List (Option S)) (xs : List X) (ys : List Y) → AreOut P left frames seats xs → AllZip Z xs ys → AreOut Q left frames seats ys
  all_made left [] seats xs ys out zip = (out.0, none_made xs ys out.1 zip)
  all_made left (due ∷ frames) seats xs ys out zip = made_for due.to due.bytes (AreOut P left frames) (AreOut Q left frames) (all_made left frames) seats xs ys out zip

-- what a thread's calls gave, job by job
pub zipped : {F J A : Type 0} (g : Shared F (J × Unit {0}) A) (f : F) (Z : J → A → Type 0) → ((job : J) (a : A) → g.post f (job, tt) a → Z job a)
    → (jobs : List J) (made : List A) → length made ≡ length jobs → GivesJobs g f jobs made → AllZip Z jobs made
zipped g f Z says [] [] long gives = tt
zipped g f Z says [] (a ∷ made) long gives = absurd (omega (arith, long))
zipped g f Z says (job ∷ jobs) [] long gives = absurd (omega (arith, long))
zipped {J = J} {A = A} g f Z says (job ∷ jobs) (a ∷ made) long gives =
    let first = (gives 0 a (omega arith)).1 in
    let one : Z job a = subst (λ (j : J). Z j a) (sym (first.job_is job)) (says first.job a first.call.met) in (
      one,
      zipped g f Z says jobs made (omega (arith, long))
          (λ i d below. let k = (gives (suc i) d (omega (arith, below))).1 in (refl, record { job = k.job; job_read = k.job_read; job_is = k.job_is; call = k.call })),
    )

-- ---- who can be taken out

-- one frame more
pub apart_more : (left : List Bool) (frames : List Due) (due : Due) (sits : List Bool) → AreApart left frames sits → is_free due.to left ≡ true → AreApart (with_taken due.to left) (frames ++ due ∷ []) sits
apart_more left [] due sits is free = (ap (is_free due.to) is ∙ free, ap (with_taken due.to) is)
apart_more left (d ∷ frames) due sits is free = (is.0, apart_more left frames due (with_taken d.to sits) is.1 free)

sits_in : {A : Type 0} (o : Option (Option A)) → unwrap_or (option_map is_told o) false ≡ true → (x : A) × (o ≡ Some (Some x))
sits_in None is = absurd cc
sits_in (Some None) is = absurd cc
sits_in (Some (Some x)) is = (x, refl)

-- who is free sits in a seat
pub sits_there : {A : Type 0} (seats : List (Option A)) (id : ℕ) → slice_index_or (map is_told seats) id false ≡ true → (x : A) × (slice_get seats id ≡ Some (Some x))
sits_there seats id is =
    sits_in (slice_get seats id) (ap (λ (o : Option Bool). unwrap_or o false) (sym (slice_get-map is_told seats id)) ∙ unwrap_or-slice_get (map is_told seats) id false ∙ is)

pub taken_out : {A : Type 0} (seats : List (Option A)) (id : ℕ) → slice_set (map is_told seats) id false ≡ map is_told (slice_set seats id None)
taken_out seats id = sym (map-set is_told seats id None)

-- ---- replicas are taken out one by one

pub record IsTaking {S X : Type 0} (P : S → List ℕ → X → Type 0) (all : List Due) (start : List (Option S)) (left : List Bool) (rest : List Due) (now : List (Option S)) (items : List X) : Type 0 where
  pub apart : AreApart left rest (map is_told now)
  pub out : (end : List (Option S)) (more : List X) → AreOut P end rest now more → AreOut P end all start (items ++ more)

module _ {S X : Type 0} (P : S → List ℕ → X → Type 0) (all : List Due) (start : List (Option S)) (left : List Bool) where
  pub taking_none : AreApart left all (map is_told start) → IsTaking P all start left all start []
  taking_none apart = record { apart = apart; out = λ end more out. out }

  taking_for : (to : Party) (bytes : List ℕ) (rest : List Due) (old new : List (Option S)) (before after : List X) → (is_free to (map is_told old) ≡ true)
      → AreApart left rest (with_taken to (map is_told old)) → ((end : List (Option S)) (more : List X) → out_for P to bytes (AreOut P end rest) old more → AreOut P end all start (before ++ more))
      → takes_for P to bytes old new before after → IsTaking P all start left rest new after
  taking_for (parties.Client id) bytes rest old new before after free apart out takes = record {
    apart = subst (λ (l : List (Option S)). AreApart left rest (map is_told l)) (sym takes.0) apart;
    out = λ end more next.
        subst (λ (l : List X). AreOut P end all start (l ++ more)) (sym takes.1) (out end more (subst (λ (l : List (Option S)). AreOut P end rest l more) takes.0 next));
  }
  taking_for (parties.Replica id) bytes rest old new before after free apart out takes =
      let there = sits_there old id.0 free in
      let s = there.0 in
      let t = takes s there.1 in
      let x = t.1.0 in
      record {
        apart = subst (λ (l : List Bool). AreApart left rest l) (taken_out old id.0 ∙ ap (map is_told) (sym t.0)) apart;
        out = λ end more next.
            let onward : AreOut P end all start (before ++ x ∷ more) =
            out end (x ∷ more) (s, there.1, t.1.1, subst (λ (l : List (Option S)). AreOut P end rest l more) t.0 next) in
            subst (λ (l : List X). AreOut P end all start l) (sym (append_assoc before (x ∷ []) more) ∙ ap (λ (l : List X). l ++ more) (sym t.1.2)) onward;
      }

  pub taking_more : (due : Due) (rest : List Due) (old new : List (Option S)) (before after : List X) → IsTaking P all start left (due ∷ rest) old before
      → takes_for P due.to due.bytes old new before after → IsTaking P all start left rest new after
  taking_more due rest old new before after is takes = taking_for due.to due.bytes rest old new before after is.apart.0 is.apart.1 is.out takes

  pub taking_all : (now : List (Option S)) (items : List X) → IsTaking P all start left [] now items → AreOut P now all start items
  taking_all now items is = subst (λ (l : List X). AreOut P now all start l) (append-nil items) (is.out now [] (refl, refl))
