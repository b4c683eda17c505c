-- The frames that flows have left, as a list.
use Rattle.std.proofs.Common.{◌≡◌, ℕ, suc, ◌+◌, ◌<◌, Bool, true, false, not, ◌&&◌, cond, List, [], ◌∷◌, ◌++◌, length, map, Some, None, refl, sym, ap, ◌∙◌, arith, lt-ltb}
use Rattle.std.proofs.lemmas.Bool.{le-ltb}
use Rattle.std.proofs.lemmas.List.{map-append}
use Rattle.std.proofs.lemmas.List.Elements.{filter-append}
use Rattle.std.specs.List.{filter, position_or_len}
use Rattle.std.specs.Prelude.{nat_lt, option_map, position, slice_get, slice_set}
use Rattle.zy_base.specs.declared.ids.Party.{Party}
use Rattle.zy_world_law.specs.World.{Mail, World, is_correct, is_due, mail_to, next_undelivered}

-- who gets frames by flows
abbrev pub Hears : Type 0
Hears = Party → Bool

abbrev pub is_left : Hears → Mail → Bool
is_left hears mail = not mail.delivered && (not mail.dropped && hears mail.to)

abbrev pub Frames : Type 0
Frames = List (Party × List ℕ)

-- it was brought to its party
abbrev pub brought : Party × List ℕ → Mail
brought x = record (mail_to x) { delivered = true }

-- the first frame that is left, and what is left without it
pub record IsNext (hears : Hears) (bag : List Mail) (x : Party × List ℕ) (others : Frames) : Type 0 where
  pub before : ℕ
  pub at : position_or_len (is_left hears) bag ≡ before
  pub inside : before < length bag
  pub is : slice_get bag before ≡ Some (mail_to x)
  pub left : filter (is_left hears) (slice_set bag before (brought x)) ≡ map mail_to others

module _ (hears : Hears) (x : Party × List ℕ) (others : Frames) where
  at_first : (m : Mail) (bag : List Mail) → is_left hears m ≡ true → m ∷ filter (is_left hears) bag ≡ map mail_to (x ∷ others) → IsNext hears (m ∷ bag) x others
  at_first m bag is same =
      let first : m ≡ mail_to x = cc in
      let rest : filter (is_left hears) bag ≡ map mail_to others = cc in
      record {
        before = 0;
        at = ap (λ (b : Bool). cond (not b) (1 + position_or_len (is_left hears) bag) 0) is;
        inside = (let e : 0 < length (m ∷ bag) = omega arith in e);
        is = ap Some first;
        left = rest;
      }

  later_on : (m : Mail) (bag : List Mail) → is_left hears m ≡ false → IsNext hears bag x others → IsNext hears (m ∷ bag) x others
  later_on m bag is rest =
      record {
        before = suc rest.before;
        at = ap (λ (b : Bool). cond (not b) (1 + position_or_len (is_left hears) bag) 0) is ∙ (let e : 1 + position_or_len (is_left hears) bag ≡ suc rest.before = omega (arith, rest.at) in e);
        inside = (let e : suc rest.before < length (m ∷ bag) = omega (arith, rest.inside) in e);
        is = rest.is;
        left = ap (λ (b : Bool). cond b (m ∷ filter (is_left hears) (slice_set bag rest.before (brought x))) (filter (is_left hears) (slice_set bag rest.before (brought x)))) is ∙ rest.left;
      }

  first_or_later : (m : Mail) (bag : List Mail) (b : Bool) → is_left hears m ≡ b → (filter (is_left hears) bag ≡ map mail_to (x ∷ others) → IsNext hears bag x others)
      → cond b (m ∷ filter (is_left hears) bag) (filter (is_left hears) bag) ≡ map mail_to (x ∷ others) → IsNext hears (m ∷ bag) x others
  first_or_later m bag true is later same = at_first m bag is same
  first_or_later m bag false is later same = later_on m bag is (later same)

  pub next_left : (bag : List Mail) → filter (is_left hears) bag ≡ map mail_to (x ∷ others) → IsNext hears bag x others
  next_left [] e = absurd cc
  next_left (m ∷ bag) e = first_or_later m bag (is_left hears m) refl (next_left bag) e

-- what is sent is left where it is for those that get frames
sent_one : (hears : Hears) (x : Party × List ℕ) (mails : List Mail) (sent : Frames) (b : Bool) → mails ≡ map mail_to sent → cond b (mail_to x ∷ mails) mails ≡ map mail_to (cond b (x ∷ sent) sent)
sent_one hears x mails sent true same = ap (λ (l : List Mail). mail_to x ∷ l) same
sent_one hears x mails sent false same = same

pub sent_left : (hears : Hears) (sent : Frames) → filter (is_left hears) (map mail_to sent) ≡ map mail_to (filter (λ x. hears x.0) sent)
sent_left hears [] = refl
sent_left hears (x ∷ sent) = sent_one hears x (filter (is_left hears) (map mail_to sent)) (filter (λ y. hears y.0) sent) (hears x.0) (sent_left hears sent)

pub more_left : (hears : Hears) (bag : List Mail) (left sent : Frames) → filter (is_left hears) bag ≡ map mail_to left
    → filter (is_left hears) (bag ++ map mail_to sent) ≡ map mail_to (left ++ filter (λ x. hears x.0) sent)
more_left hears bag left sent is =
    filter-append (is_left hears) bag (map mail_to sent)
    ∙ ap (λ (l : List Mail). l ++ filter (is_left hears) (map mail_to sent)) is
    ∙ ap (λ (l : List Mail). map mail_to left ++ l) (sent_left hears sent)
    ∙ sym (map-append mail_to left (filter (λ x. hears x.0) sent))

-- ---- of a world

module _ {S : Type 0} (hears : Hears) (w : World S) (by : (party : Party) → is_correct w party && not (w.muted party) ≡ hears party) where
  tests : is_due w ≡ is_left hears
  tests = λ i mail. (ap (λ (b : Bool). not mail.delivered && (not mail.dropped && b)) (by mail.to)) i

  pub next_is : (x : Party × List ℕ) (others : Frames) (next : IsNext hears w.bag x others) → next_undelivered w ≡ Some (next.before + 1)
  next_is x others next =
      ap (λ (test : Mail → Bool). option_map (λ before. before + 1) (position test w.bag)) tests
      ∙ ap (λ (n : ℕ). option_map (λ before. before + 1) (cond (nat_lt n (length w.bag)) (Some n) None)) next.at
      ∙ ap (λ (b : Bool). option_map (λ before. before + 1) (cond b (Some next.before) None)) (lt-ltb next.before (length w.bag) next.inside)

  none_of_one : (m : Mail) (bag : List Mail) (b : Bool) → is_left hears m ≡ b → (filter (is_left hears) bag ≡ [] → length bag ≡ position_or_len (is_left hears) bag)
      → cond b (m ∷ filter (is_left hears) bag) (filter (is_left hears) bag) ≡ [] → length (m ∷ bag) ≡ position_or_len (is_left hears) (m ∷ bag)
  none_of_one m bag true is later same = absurd cc
  none_of_one m bag false is later same =
      let rest = later same in
      (let e : length (m ∷ bag) ≡ 1 + position_or_len (is_left hears) bag = omega (arith, rest) in e)
      ∙ sym (ap (λ (b : Bool). cond (not b) (1 + position_or_len (is_left hears) bag) 0) is)

  none_left : (bag : List Mail) → filter (is_left hears) bag ≡ [] → length bag ≡ position_or_len (is_left hears) bag
  none_left [] e = refl
  none_left (m ∷ bag) e = none_of_one m bag (is_left hears m) refl (none_left bag) e

  pub none_next : filter (is_left hears) w.bag ≡ [] → next_undelivered w ≡ None
  none_next none =
      let all : length w.bag ≡ position_or_len (is_left hears) w.bag = none_left w.bag none in
      ap (λ (test : Mail → Bool). option_map (λ before. before + 1) (position test w.bag)) tests
      ∙ ap (λ (b : Bool). option_map (λ before. before + 1) (cond b (Some (position_or_len (is_left hears) w.bag)) None)) (le-ltb (position_or_len (is_left hears) w.bag) (length w.bag) (omega (arith, all)))
