-- The own hate: it is counted as another's of the own view would be, and saying it spends a signature where it wasn't said.
use Rattle.std.proofs.Common.{◌≡◌, ℕ, nat_eq, nat_lt, Bool, true, false, if◌then◌else◌, List, [], Option, Some, None, refl, ap, sym, ◌∙◌, subst, arith}
use Rattle.std.specs.Prelude.{slice_set}
use Rattle.std.specs.List.{list_any}
use Rattle.std.specs.Option.{ForSome}
use Rattle.std.proofs.lemmas.Bool.{le-ltb}
use Rattle.std.proofs.lemmas.List.{set-get_or}
use Rattle.zy_base.specs.Machine.{Rules}
use Rattle.zy_base.specs.declared.ids.Party.{Party}
use Rattle.zy_base.specs.declared.ids.Party.TheVariants.{Replica}
use Rattle.zy_base.specs.declared.step.Answer.TheVariants.{Taken}
use Rattle.zy_base.specs.declared.step.Stood.{Stood}
use Rattle.zy_parts.specs.Numbers as numbers
use Rattle.zy_parts.specs.Signing.{IsSignedInRange}
use Rattle.zy_parts.specs.Statements.{IsHateInRange, hate_fields}
use Rattle.zy_parts.specs.declared.signed.Signed.{Signed}
use Rattle.zy_parts.specs.declared.statements.Hate.{Hate}
use Rattle.zy_frames.specs.declared.frame.Frame.TheVariants as frames
use Rattle.zy_seal.specs.Sealing.{sealed_by}
use Rattle.zy_evidence.specs.Reading.{number_of_party}
use Rattle.zy_change.specs.declared.owed.Owed.{Owed}
use Rattle.zy_change.specs.Owing.{hate_owes_of, nothing}
use Rattle.zy_change.specs.Views.{Views, is_hated_by, with_hate}
use Rattle.zy_table.specs.declared.deeds.Act.TheVariants.{Says}
use Rattle.zy_table.specs.declared.deeds.Body.TheVariants as bodies
use Rattle.zy_table.specs.declared.deeds.To.TheVariants.{All}
use Rattle.zy_table.specs.State.{State, own_view, spent, stood_of}
use Rattle.zy_table.specs.Deeds.{Going, act, send}
use Rattle.zy_table.specs.Beginning.{confirms}
use Rattle.zy_table.specs.Leaving.{Attempt, goes, report_of}
use Rattle.zy_table.specs.Hates.{own_hate, hate_for, hate_now, say_hate, count_own, hate_counted, hate_from, with_hate_of}
use Rattle.zy_replica_views.specs.Follows.{Follows, SignsAsItself, IsCountedOwed, IsHateOwed, spent_many}
use Rattle.zy_replica_views.proofs.FollowLemmas.{counted_follows, for_none, none_spent, taken}
use Rattle.zy_replica.specs.Judging.{IsOwnOwed, OwesOwn, signs_of}

passed : {A : Type 0} (a b c : Bool) (x y z rest : A) → a ≡ false → b ≡ false → c ≡ false → (if a then x else (if b then y else (if c then z else rest))) ≡ rest
passed a b c x y z rest first second third = rw (first, second, third) refl

not_below_itself : (n : ℕ) → nat_lt n n ≡ false
not_below_itself n = le-ltb _ _ (omega arith)

-- a hate that was said, of the own view
pub said_is_own : {S : Type 0} (s : State S) (said : Signed Hate) → Some said ≡ s.hate → nat_eq said.stmt.view.0 (own_view s) ≡ true → Some said ≡ own_hate s
said_is_own s said kept same =
    let here : hate_for (own_view s) (Some said) ≡ Some said = rw same refl in
    sym here ∙ ap (hate_for (own_view s)) kept

hate_for_some : (P : Signed Hate → Type 0) (view : ℕ) (said : Option (Signed Hate)) → ForSome said P → ForSome (hate_for view said) P
hate_for_some P view None all = all
hate_for_some P view (Some said) all = by (nat_eq said.stmt.view.0 view)
  where
    by : (b : Bool) → ForSome (if b then Some said else None) P
    by true = all
    by false = for_none P

pub said_in_range : {S : Type 0} (s : State S) → ForSome s.hate (IsSignedInRange IsHateInRange) → ForSome (own_hate s) (IsSignedInRange IsHateInRange)
said_in_range s all = hate_for_some (IsSignedInRange IsHateInRange) (own_view s) s.hate all

-- ---- the own hate, whatever its signature will be

abbrev hate_of : ℕ → Hate
hate_of view = record { view = record { 0 = view } }

pub is_now : {S : Type 0} (s : State S) (hate : Hate) → hate.view.0 ≡ own_view s → hate ≡ hate_now s
is_now s hate is = ap hate_of is

pub owes_nothing : {S : Type 0} (s : State S) (owed : Owed) → is_hated_by s.views (Replica s.me) ≡ true → owed ≡ nothing → IsOwnOwed s owed
owes_nothing s owed old is = subst (λ (b : Bool). OwesOwn s b owed) (sym old) is

pub owes_hate : {S : Type 0} (s : State S) (own : Signed Hate) (owed : Owed) → is_hated_by s.views (Replica s.me) ≡ false → own.by ≡ Replica s.me → own.stmt ≡ hate_now s → IsHateOwed s own owed → IsOwnOwed s owed
owes_hate s own owed new by now owes =
    subst (λ (b : Bool). OwesOwn s b owed) (sym new)
    (λ vote by_me says pens.
    owes pens
    ∙ ap (λ (party : Party). hate_owes_of s.views party own.stmt.view (report_of s) pens) (by ∙ sym by_me)
    ∙ ap (λ (hate : Hate). hate_owes_of s.views vote.by hate.view (report_of s) pens) (now ∙ sym says))

-- a hate that is counted already is counted again to no effect
hated_again : (v : Views) (by : Party) → is_hated_by v by ≡ true → with_hate by v ≡ v
hated_again v by old =
    ap (λ (hated : List Bool). record v { hated = hated }) (ap (λ (b : Bool). slice_set v.hated (number_of_party by) b) (sym old) ∙ set-get_or v.hated (number_of_party by) false)

module _ {S : Type 0} (R : Rules S) (g : Going S) where
  abbrev s : State S
  s = g.state

  abbrev counted : Option (Signed Hate) → Going S
  counted said = with_hate_of (Replica s.me) (say_hate R said g)

  said_spends : (said : Option (Signed Hate)) → (say_hate R said g).state.sealer ≡ spent_many (signs_of said) s.sealer
  said_spends None = refl
  said_spends (Some one) = none_spent s.sealer

  pub spends_so_far : (said : Option (Signed Hate)) (more : ℕ) → more ≡ signs_of said → (counted said).state.sealer ≡ spent_many more s.sealer
  spends_so_far said more is = said_spends said ∙ ap (λ n. spent_many n s.sealer) (sym is)

  -- said for the first time: what is signed is kept, said and sent
  pub said_first : (core : State S) (signed copy : Signed Hate) (hate : Hate) (stood : Stood) → core ≡ spent s → hate ≡ hate_now s → signed ≡ sealed_by numbers.hate hate_fields s.sealer hate → copy ≡ signed → stood ≡ stood_of R s
      → send All (frames.Hate signed) (act (Says (record { body = bodies.Hate hate; stood = stood })) (record { state = record core { hate = Some copy }; deeds = g.deeds })) ≡ say_hate R None g
  said_first core signed copy hate stood spends now sealed same stands = rw (same, sealed, now, spends, stands) refl

  pub group_stays : (said : Option (Signed Hate)) → (say_hate R said g).state.counts ≡ s.counts
  group_stays None = refl
  group_stays (Some one) = refl

  -- ---- counted for the first time

  pub counted_first : (said : Option (Signed Hate)) → is_hated_by s.views (Replica s.me) ≡ false → count_own R (say_hate R said g) ≡ hate_counted R (counted said)
  counted_first None new = rw new refl
  counted_first (Some one) new = rw new refl

  owed_counted : (said : Option (Signed Hate)) (owed : Owed) → is_hated_by s.views (Replica s.me) ≡ false → OwesOwn s false owed → IsCountedOwed (counted said).state owed
  owed_counted None owed new is = λ pens.
      let at = not_below_itself (own_view s) in
      is (record { by = Replica s.me; stmt = hate_now s; sig = [] }) refl refl pens ∙ passed _ _ _ _ _ _ _ at at new
  owed_counted (Some one) owed new is = λ pens.
      let at = not_below_itself (own_view s) in
      is (record { by = Replica s.me; stmt = hate_now s; sig = [] }) refl refl pens ∙ passed _ _ _ _ _ _ _ at at new

  signs_still : (said : Option (Signed Hate)) → SignsAsItself s → SignsAsItself (counted said).state
  signs_still None signer = signer
  signs_still (Some one) signer = signer

  first_follows : (said : Option (Signed Hate)) (owed : Owed) → said ≡ own_hate s → is_hated_by s.views (Replica s.me) ≡ false → SignsAsItself s → OwesOwn s false owed → Follows R (hate_from R g) owed (counted said)
  unfolding hate_from
  first_follows said owed own new signer is =
      subst (λ (o : Option (Signed Hate)). Follows R (count_own R (say_hate R o g)) owed (counted said)) own
      (rw (counted_first said new) (counted_follows R (counted said) owed (signs_still said signer) (owed_counted said owed new is)))

  -- ---- counted before

  counted_again : (said : Option (Signed Hate)) → is_hated_by s.views (Replica s.me) ≡ true → count_own R (say_hate R said g) ≡ goes Taken (say_hate R said g)
  counted_again None old = rw old refl
  counted_again (Some one) old = rw old refl

  pub again_is : (said : Option (Signed Hate)) → said ≡ own_hate s → is_hated_by s.views (Replica s.me) ≡ true → hate_from R g ≡ goes Taken (say_hate R said g)
  unfolding hate_from
  again_is said own old = ap (λ (o : Option (Signed Hate)). count_own R (say_hate R o g)) (sym own) ∙ counted_again said old

  same_again : (said : Option (Signed Hate)) → is_hated_by s.views (Replica s.me) ≡ true → counted said ≡ say_hate R said g
  same_again None old = ap (λ (v : Views). record (say_hate R None g) { state = record (say_hate R None g).state { views = v } }) (hated_again s.views (Replica s.me) old)
  same_again (Some one) old = ap (λ (v : Views). record (say_hate R (Some one) g) { state = record (say_hate R (Some one) g).state { views = v } }) (hated_again s.views (Replica s.me) old)

  again_follows : (said : Option (Signed Hate)) → said ≡ own_hate s → is_hated_by s.views (Replica s.me) ≡ true → Follows R (hate_from R g) nothing (counted said)
  again_follows said own old =
      subst (λ (x : Going S). Follows R (hate_from R g) nothing x) (sym (same_again said old))
      (subst (λ (a : Attempt S). Follows R a nothing (say_hate R said g)) (sym (again_is said own old)) (taken R (say_hate R said g)).0)

  -- ---- in either case

  pub own_follows : (said : Option (Signed Hate)) (owed : Owed) → said ≡ own_hate s → SignsAsItself s → IsOwnOwed s owed → Follows R (hate_from R g) owed (counted said)
  own_follows said owed own signer is = by (is_hated_by s.views (Replica s.me)) refl is
    where
      by : (b : Bool) → is_hated_by s.views (Replica s.me) ≡ b → OwesOwn s b owed → Follows R (hate_from R g) owed (counted said)
      by true old owes = subst (λ (o : Owed). Follows R (hate_from R g) o (counted said)) (sym owes) (again_follows said own old)
      by false new owes = first_follows said owed own new signer owes

  -- in a step that signed nothing so far
  pub said_only : g.deeds.acts ≡ [] → (said : Option (Signed Hate)) → list_any confirms (say_hate R said g).deeds.acts ≡ false
  said_only silent None = rw silent refl
  said_only silent (Some one) = rw silent refl
