-- What was said stays said as a replica or a client makes a step, and what it says then is said.
use Rattle.std.proofs.Common.{◌≡◌, ◌≢◌, ℕ, inl, inr, Bool, true, false, not, ◌||◌, List, [], ◌∷◌, ◌++◌, map, Option, Some, refl, sym, ap, ◌∙◌, subst}
use Rattle.std.specs.Prelude.{option_map, slice_get}
use Rattle.std.specs.List.{AllByRecursion, list_any}
use Rattle.std.specs.Str.{bytes_eq}
use Rattle.std.proofs.lemmas.Bool.{cases_eq}
use Rattle.zy_base.specs.declared.ids.ClientId.{ClientId}
use Rattle.zy_base.specs.declared.ids.Party.{Party}
use Rattle.zy_base.specs.declared.ids.Party.TheVariants as parties
use Rattle.zy_base.specs.declared.ids.ReplicaId.{ReplicaId}
use Rattle.zy_base.specs.declared.step.Spoken.{Spoken}
use Rattle.zy_law_steps.specs.Signs.{ArePassed}
use Rattle.zy_world_law.specs.Events.{with_client, with_replica}
use Rattle.zy_world_law.specs.Faithful.{PassesSaid}
use Rattle.zy_world_law.specs.Honest.{is_unsaid}
use Rattle.zy_world_law.specs.World.{World, Client, Remark, Replica, client_at, correct_in, replica_at, texts_said}
use Rattle.zy_world_law.proofs.Seats.{get_set, get_set_other, seat_of}
use Rattle.zy_world_law.proofs.Tests.{bytes_same}
use Rattle.zy_world_law.proofs.ToldSteps.{map_append}

-- ---- lists of texts

has_more : (text : List ℕ) (texts more : List (List ℕ)) → list_any (bytes_eq text) texts ≡ true → list_any (bytes_eq text) (texts ++ more) ≡ true
has_more text [] more = λ is. absurd cc
has_more text (first ∷ texts) more = by (bytes_eq text first) (has_more text texts more)
  where
    by : (b : Bool) → (list_any (bytes_eq text) texts ≡ true → list_any (bytes_eq text) (texts ++ more) ≡ true) → (b || list_any (bytes_eq text) texts) ≡ true → (b || list_any (bytes_eq text) (texts ++ more)) ≡ true
    by true rest is = refl
    by false rest is = rest is

has_front : (text : List ℕ) (before texts : List (List ℕ)) → list_any (bytes_eq text) texts ≡ true → list_any (bytes_eq text) (before ++ texts) ≡ true
has_front text [] texts is = is
has_front text (first ∷ before) texts is = by (bytes_eq text first) (has_front text before texts is)
  where
    by : (b : Bool) → list_any (bytes_eq text) (before ++ texts) ≡ true → (b || list_any (bytes_eq text) (before ++ texts)) ≡ true
    by true rest = refl
    by false rest = rest

not_false : (b : Bool) → not b ≡ false → b ≡ true
not_false true is = refl
not_false false is = absurd cc

-- a text that was said is said among more
said_among : (o : Option (List (List ℕ))) (texts more : List (List ℕ)) (text : List ℕ) → o ≡ Some texts → is_unsaid o text ≡ false → is_unsaid (Some (texts ++ more)) text ≡ false
said_among o texts more text is said =
    let there : not (list_any (bytes_eq text) texts) ≡ false = ap (λ (o : Option (List (List ℕ))). is_unsaid o text) (sym is) ∙ said in
    ap not (has_more text texts more (not_false (list_any (bytes_eq text) texts) there))

-- all of these are among them
pub all_among : {A : Type 0} (f : A → List ℕ) (before : List (List ℕ)) (xs : List A) → AllByRecursion (λ x. list_any (bytes_eq (f x)) (before ++ map f xs) ≡ true) xs
all_among f before [] = tt
all_among {A = A} f before (x ∷ xs) = (
  has_front (f x) before (f x ∷ map f xs) (ap (λ (b : Bool). b || list_any (bytes_eq (f x)) (map f xs)) (bytes_same (f x))),
  subst (λ (l : List (List ℕ)). AllByRecursion (λ (y : A). list_any (bytes_eq (f y)) l ≡ true) xs) (append_one before) (all_among f (before ++ f x ∷ []) xs),
)
  where
    append_one : (before : List (List ℕ)) → (before ++ f x ∷ []) ++ map f xs ≡ before ++ f x ∷ map f xs
    append_one [] = refl
    append_one (first ∷ before) = ap (λ (l : List (List ℕ)). first ∷ l) (append_one before)

-- ---- what was said in a world

-- all that was said in one was said in the other
abbrev pub SaysMore : {S : Type 0} → World S → World S → Type 0
SaysMore w v = (by : Party) (text : List ℕ) → is_unsaid (texts_said w by) text ≡ false → is_unsaid (texts_said v by) text ≡ false

pub passes_before : {S : Type 0} (w v : World S) (test : Party → List ℕ → Bool) → SaysMore w v → PassesSaid v test → PassesSaid w test
passes_before w v test more passes by text said = passes by text (more by text said)

-- each of some texts of a party passes
pub all_passed : {S : Type 0} (w : World S) (test : Party → List ℕ → Bool) (by : Party) (texts : List (List ℕ)) → PassesSaid w test → texts_said w by ≡ Some texts → (said : List Spoken)
    → AllByRecursion (λ spoken. list_any (bytes_eq spoken.text) texts ≡ true) said → ArePassed test by said
all_passed w test by texts passes is [] all = tt
all_passed w test by texts passes is (spoken ∷ said) all = (
  passes by spoken.text (ap (λ (o : Option (List (List ℕ))). is_unsaid o spoken.text) is ∙ ap not all.0),
  all_passed w test by texts passes is said all.1,
)

module _ {S : Type 0} (w : World S) (id : ReplicaId) (x : Replica S) (at : replica_at w id.0 ≡ Some x) (x' : Replica S) where
  abbrev replica_world : World S
  replica_world = with_replica w id x'

  pub own_replica : replica_at replica_world id.0 ≡ Some x'
  own_replica = ap (λ (o : Option (Option (Replica S))). correct_in o) (get_set w.replicas id.0 (Some x') (Some x) (seat_of (slice_get w.replicas id.0) x at))

  pub other_replica : (q : ℕ) → q ≢ id.0 → replica_at replica_world q ≡ replica_at w q
  other_replica q other = ap (λ (o : Option (Option (Replica S))). correct_in o) (get_set_other w.replicas id.0 q (Some x') other)

  abbrev texts_of : Replica S → List (List ℕ)
  texts_of y = map (λ (remark : Remark). remark.text) y.said

  pub replica_says_more : (new : List Remark) → x'.said ≡ x.said ++ new → SaysMore w replica_world
  replica_says_more new is (parties.Client c) text said = said
  replica_says_more new is (parties.Replica q) text said = elim (cases_eq q.0 id.0) [
    | inl same ↦
        let before : texts_said w (parties.Replica q) ≡ Some (texts_of x) = ap (option_map texts_of) (ap (replica_at w) same ∙ at) in
        let after : texts_said replica_world (parties.Replica q) ≡ Some (texts_of x ++ map (λ (remark : Remark). remark.text) new) =
        ap (option_map texts_of) (ap (replica_at replica_world) same ∙ own_replica)
        ∙ ap (λ (l : List Remark). Some (map (λ (remark : Remark). remark.text) l)) is ∙ ap (λ (l : List (List ℕ)). Some l) (map_append (λ (remark : Remark). remark.text) x.said new) in
        ap (λ (o : Option (List (List ℕ))). is_unsaid o text) after ∙ said_among (texts_said w (parties.Replica q)) (texts_of x) (map (λ (remark : Remark). remark.text) new) text before said
    | inr other ↦ ap (λ (o : Option (Replica S)). is_unsaid (option_map texts_of o) text) (other_replica q.0 other) ∙ said
  ]

module _ {S : Type 0} (w : World S) (id : ClientId) (x : Client) (at : client_at w id.0 ≡ Some x) (x' : Client) where
  abbrev client_world : World S
  client_world = with_client w id x'

  pub own_client : client_at client_world id.0 ≡ Some x'
  own_client = ap (λ (o : Option (Option Client)). correct_in o) (get_set w.clients id.0 (Some x') (Some x) (seat_of (slice_get w.clients id.0) x at))

  pub other_client : (q : ℕ) → q ≢ id.0 → client_at client_world q ≡ client_at w q
  other_client q other = ap (λ (o : Option (Option Client)). correct_in o) (get_set_other w.clients id.0 q (Some x') other)

  pub client_says_more : (new : List (List ℕ)) → x'.said ≡ x.said ++ new → SaysMore w client_world
  client_says_more new is (parties.Replica q) text said = said
  client_says_more new is (parties.Client c) text said = elim (cases_eq c.0 id.0) [
    | inl same ↦
        let before : texts_said w (parties.Client c) ≡ Some x.said = ap (option_map (λ (y : Client). y.said)) (ap (client_at w) same ∙ at) in
        let after : texts_said client_world (parties.Client c) ≡ Some (x.said ++ new) =
        ap (option_map (λ (y : Client). y.said)) (ap (client_at client_world) same ∙ own_client) ∙ ap (λ (l : List (List ℕ)). Some l) is in
        ap (λ (o : Option (List (List ℕ))). is_unsaid o text) after ∙ said_among (texts_said w (parties.Client c)) x.said new text before said
    | inr other ↦ ap (λ (o : Option Client). is_unsaid (option_map (λ (y : Client). y.said) o) text) (other_client c.0 other) ∙ said
  ]
