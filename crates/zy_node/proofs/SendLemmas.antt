-- Datagrams that are sent one after another, and what is sent where a call fails among them.
use Rattle.std.proofs.Common.{◌≡◌, ℕ, ◌+◌, ◌<◌, List, [], ◌∷◌, ◌++◌, length, map, take, drop, get_or, Option, Some, None, Result, Ok, Err, OnErr, refl, sym, ap, subst, ◌∙◌, append_assoc}
use Rattle.std.specs.List.{flat_map}
use Rattle.std.proofs.lemmas.Grind.{flat_map-append}
use Rattle.std.proofs.lemmas.List.{append-nil, map-append, map_more, take_more, take-append-drop}
use Rattle.zy_base.specs.declared.ids.Party.{Party}
use Rattle.zy_edge.specs.Link.{Mail, Parcel, StaysAsTold}
use Rattle.zy_node.specs.Told.{ComesTo, Sends, SendsFront}
use Rattle.zy_node.specs.Turn.{HostState, Reached, onward, parcels_to}
use Rattle.zy_node.specs.declared.fault.NodeFault.{NodeFault}
use Rattle.zy_node.specs.declared.fault.NodeFault.TheVariants.{Link, Want}

-- mail that is told
abbrev pub told : List (List ℕ) → List Parcel → Option Mail
told coming sent = Some (record { coming = coming; sent = sent })

abbrev pub reached_with : {S : Type 0} → HostState S → List Parcel → Reached S
reached_with host sent = record { host = host; sent = sent }

-- ---- one after another

pub Sends-nil : (mail : Option Mail) → Sends [] mail mail
Sends-nil None = tt
Sends-nil (Some mail) = ap (told mail.coming) (sym (append-nil mail.sent))

pub Sends-append : (first second : List Parcel) (before between after : Option Mail) → Sends first before between → Sends second between after → Sends (first ++ second) before after
Sends-append first second None between after one two = tt
Sends-append first second (Some mail) between after one two =
    let there = subst (λ (m : Option Mail). Sends second m after) one two in
    there ∙ ap (told mail.coming) (append_assoc mail.sent first second)

-- ---- fronts

pub front_of_all : (all : List Parcel) (before after : Option Mail) → Sends all before after → SendsFront all before after
front_of_all all before after sent = record { front = all; rest = []; parts = sym (append-nil all); sent = sent }

pub nothing_sent : (all : List Parcel) (mail : Option Mail) → SendsFront all mail mail
nothing_sent all mail = record { front = []; rest = all; parts = refl; sent = Sends-nil mail }

pub stays_unsent : (all : List Parcel) (before after : Option Mail) → StaysAsTold before after → SendsFront all before after
stays_unsent all None after same = record { front = []; rest = all; parts = refl; sent = tt }
stays_unsent all (Some mail) after same = subst (λ (m : Option Mail). SendsFront all (Some mail) m) (sym same) (nothing_sent all (Some mail))

pub front_after : (first second : List Parcel) (before between after : Option Mail) → Sends first before between → SendsFront second between after → SendsFront (first ++ second) before after
front_after first second before between after one two = record {
  front = first ++ two.front;
  rest = two.rest;
  parts = ap (λ (all : List Parcel). first ++ all) two.parts ∙ sym (append_assoc first two.front two.rest);
  sent = Sends-append first two.front before between after one two.sent;
}

pub front_before : (first second : List Parcel) (before after : Option Mail) → SendsFront first before after → SendsFront (first ++ second) before after
front_before first second before after one = record {
  front = one.front;
  rest = one.rest ++ second;
  parts = ap (λ (all : List Parcel). all ++ second) one.parts ∙ append_assoc one.front one.rest second;
  sent = one.sent;
}

pub on_err : {A E : Type 0} (result : Result A E) (P : Type 0) → P → OnErr result P
on_err (Ok value) P holds = tt
on_err (Err fault) P holds = holds

-- ---- in a loop

-- one datagram more of those to a party
pub one_datagram_more : (to : Party) (datagrams : List (List ℕ)) (i : ℕ) (datagram : List ℕ) (before between after : Option Mail) → i < length datagrams → datagram ≡ get_or datagrams i datagram
    → Sends (parcels_to to (take i datagrams)) before between → Sends (record { to = to; bytes = datagram } ∷ []) between after → Sends (parcels_to to (take (i + 1) datagrams)) before after
one_datagram_more to datagrams i datagram before between after within is earlier sent =
    let f : List ℕ → Parcel = λ bytes. record { to = to; bytes = bytes } in
    let more : map f (take (i + 1) datagrams) ≡ map f (take i datagrams) ++ f datagram ∷ [] =
    map_more f datagrams i datagram within ∙ ap (λ (d : List ℕ). map f (take i datagrams) ++ f d ∷ []) (sym is) in
    subst (λ (all : List Parcel). Sends all before after) (sym more) (Sends-append (map f (take i datagrams)) (f datagram ∷ []) before between after earlier sent)

-- those before a datagram that wasn't sent
pub datagrams_before : (to : Party) (datagrams : List (List ℕ)) (i : ℕ) (before between after : Option Mail) → Sends (parcels_to to (take i datagrams)) before between → StaysAsTold between after → SendsFront (parcels_to to datagrams) before after
datagrams_before to datagrams i before between after earlier same =
    let f : List ℕ → Parcel = λ bytes. record { to = to; bytes = bytes } in
    let parts : map f (take i datagrams) ++ map f (drop i datagrams) ≡ map f datagrams = sym (map-append f (take i datagrams) (drop i datagrams)) ∙ ap (map f) (take-append-drop i datagrams) in
    subst (λ (all : List Parcel). SendsFront all before after) parts (front_after (map f (take i datagrams)) (map f (drop i datagrams)) before between after earlier (stays_unsent (map f (drop i datagrams)) between after same))

-- ---- what each of a list sends

module _ {A : Type 0} (f : A → List Parcel) where
  one_sends_more : (xs : List A) (i : ℕ) (one : A) → i < length xs → one ≡ get_or xs i one → flat_map f (take (i + 1) xs) ≡ flat_map f (take i xs) ++ f one
  one_sends_more xs i one within is =
      ap (flat_map f) (take_more xs i one within) ∙ flat_map-append f (take i xs) (get_or xs i one ∷ [])
      ∙ ap (λ (l : List Parcel). flat_map f (take i xs) ++ l) (append-nil (f (get_or xs i one))) ∙ ap (λ (o : A). flat_map f (take i xs) ++ f o) (sym is)

  -- one more
  pub one_more : (xs : List A) (i : ℕ) (one : A) (before between after : Option Mail) → i < length xs → one ≡ get_or xs i one
      → Sends (flat_map f (take i xs)) before between → Sends (f one) between after → Sends (flat_map f (take (i + 1) xs)) before after
  one_more xs i one before between after within is earlier sent =
      subst (λ (all : List Parcel). Sends all before after) (sym (one_sends_more xs i one within is)) (Sends-append (flat_map f (take i xs)) (f one) before between after earlier sent)

  -- those before one of which a front was sent
  pub those_before : (xs : List A) (i : ℕ) (one : A) (before between after : Option Mail) → i < length xs → one ≡ get_or xs i one
      → Sends (flat_map f (take i xs)) before between → SendsFront (f one) between after → SendsFront (flat_map f xs) before after
  those_before xs i one before between after within is earlier front =
      let rest = drop (i + 1) xs in
      let upto = front_before (flat_map f (take i xs) ++ f one) (flat_map f rest) before after (front_after (flat_map f (take i xs)) (f one) before between after earlier front) in
      let parts : (flat_map f (take i xs) ++ f one) ++ flat_map f rest ≡ flat_map f xs =
      ap (λ (all : List Parcel). all ++ flat_map f rest) (sym (one_sends_more xs i one within is)) ∙ sym (flat_map-append f (take (i + 1) xs) rest) ∙ ap (flat_map f) (take-append-drop (i + 1) xs) in
      subst (λ (all : List Parcel). SendsFront all before after) parts upto

  -- one more that is owed
  pub one_owed_more : {B : Type 0} (g : B → List Parcel) (before owed : List B) (xs : List A) (i : ℕ) (one : A) (last : B) → i < length xs → one ≡ get_or xs i one → g last ≡ f one
      → flat_map g owed ≡ flat_map g before ++ flat_map f (take i xs) → flat_map g (owed ++ last ∷ []) ≡ flat_map g before ++ flat_map f (take (i + 1) xs)
  one_owed_more g before owed xs i one last within is same so_far =
      flat_map-append g owed (last ∷ []) ∙ ap (λ (l : List Parcel). flat_map g owed ++ l) (append-nil (g last)) ∙ ap (λ (l : List Parcel). l ++ g last) so_far
      ∙ append_assoc (flat_map g before) (flat_map f (take i xs)) (g last)
      ∙ ap (λ (l : List Parcel). flat_map g before ++ (flat_map f (take i xs) ++ l)) same ∙ ap (λ (l : List Parcel). flat_map g before ++ l) (sym (one_sends_more xs i one within is))

-- ---- a call that comes to something, after another one

pub comes_after : {S : Type 0} (first : Reached S) (next : HostState S → Reached S) (middle : HostState S) (result : Result (HostState S) (NodeFault (HostState S))) (before between after : Option Mail)
    → middle ≡ first.host → Sends first.sent before between → ComesTo (next middle) result between after → ComesTo (onward first next) result before after
comes_after {S} first next middle (Ok host) before between after is sent comes =
    let here = subst (λ (h : HostState S). ComesTo (next h) (Ok host) between after) is comes in
    (here.0, Sends-append first.sent (next first.host).sent before between after sent here.1)
comes_after {S} first next middle (Err (Link host)) before between after is sent comes =
    let here = subst (λ (h : HostState S). ComesTo (next h) (Err (Link host)) between after) is comes in
    (here.0, front_after first.sent (next first.host).sent before between after sent here.1)
comes_after {S} first next middle (Err Want) before between after is sent comes =
    front_after first.sent (next first.host).sent before between after sent (subst (λ (h : HostState S). ComesTo (next h) (Err Want) between after) is comes)
