-- What liars and forgers sign.
use Rattle.std.proofs.Common.{◌≡◌, ℕ, ◌+◌, ◌-◌, ◌<◌, ◌≤◌, Bool, true, false, ◌&&◌, List, [], ◌∷◌, length, Option, Some, None, refl, sym, ap, ap₂, ◌∙◌, subst, arith}
use Rattle.std.specs.Prelude.{slice_get, slice_set, option_map, nat_eq, nat_lt, if◌then◌else◌}
use Rattle.std.specs.List.{list_all}
use Rattle.std.specs.Option.{option_and_then}
use Rattle.std.proofs.lemmas.Bool.{eqb-true, eqb-false, lt-ltb, le-ltb}
use Rattle.std.proofs.lemmas.Option.{slice_get-get_or}
use Rattle.zy_base.specs.declared.cause.Cause.TheVariants as causes
use Rattle.zy_base.specs.declared.ids.Party.{Party}
use Rattle.zy_base.specs.declared.ids.Party.TheVariants as parties
use Rattle.zy_frames.specs.Frames.{frame_in}
use Rattle.zy_parts.specs.declared.signed.Signed.{Signed}
use Rattle.zy_parts.specs.declared.statements.Ask.{Ask}
use Rattle.zy_seal.specs.Sealing.{SealerState, spent_one, signatures_by}
use Rattle.zy_table.specs.Sending.{copies, spelling_of}
use Rattle.zy_world.specs.Shown.{Shown, Seated, Keyed, seat_of, is_seated, is_liar_seat, is_correct_seat, key_in, with_key, requests_in}
use Rattle.zy_world.specs.Shows.{Shows, ShowsKeys}
use Rattle.zy_world.specs.Tale.{if_replica}
use Rattle.zy_world_law.specs.Events.{Happened, no_subject, lie, forge, signatures_in, spent}
use Rattle.zy_world_law.specs.Events.Happened.{Goes}
use Rattle.zy_world_law.specs.Liars.{Telling, by_replica, last_of, request_read, requests_at}
use Rattle.zy_world_law.specs.Setup.{Setup, sealer_of}
use Rattle.zy_world_law.specs.World.{World, Mail, correct_in, same_party, is_party, is_liar, is_correct, are_parties, with_sent}
use Rattle.zy_world_law.specs.declared.note.Note.TheVariants as notes
use Rattle.zy_world_law.proofs.Seats.{get_set, get_set_other, seat_of as sitting}
use Rattle.zy_world.proofs.Changes.{mail_is}
use Rattle.zy_world.proofs.ShownSeats.{party_is, liar_is, correct_is, seat_shown}

-- ---- who lies and who is there

module _ {S : Type 0} (g : World S) (v : Shown S) (s : Shows g v) where
  pub lies_is : (party : Party) → is_liar g party ≡ is_liar_seat (seat_of v.seats party)
  lies_is party = liar_is g party ∙ ap is_liar_seat (sym (seat_shown g v.seats s.seats party))

  pub is_right : (party : Party) → is_correct g party ≡ is_correct_seat (seat_of v.seats party)
  is_right party = correct_is g party ∙ ap is_correct_seat (sym (seat_shown g v.seats s.seats party))

  pub is_there : (party : Party) → is_party g party ≡ is_seated (seat_of v.seats party)
  is_there party = party_is g party ∙ ap is_seated (sym (seat_shown g v.seats s.seats party))

  pub all_there : (to : List Party) → are_parties g to ≡ list_all (λ party. is_seated (seat_of v.seats party)) to
  all_there to = let tests : is_party g ≡ (λ party. is_seated (seat_of v.seats party)) = λ j party. is_there party j in ap (λ (p : Party → Bool). list_all p to) tests

-- ---- a liar signs with its next signature

module _ (xs : List (Option SealerState)) (at : ℕ) (key new : SealerState) (there : correct_in (slice_get xs at) ≡ Some key) where
  key_at : (j : ℕ) (b : Bool) → nat_eq j at ≡ b → correct_in (slice_get (slice_set xs at (Some new)) j) ≡ (if b then Some new else correct_in (slice_get xs j))
  key_at j true same =
      ap (λ (k : ℕ). correct_in (slice_get (slice_set xs at (Some new)) k)) (eqb-true j at same)
      ∙ ap (λ (o : Option (Option SealerState)). correct_in o) (get_set xs at (Some new) (Some key) (sitting (slice_get xs at) key there))
  key_at j false other = ap (λ (o : Option (Option SealerState)). correct_in o) (get_set_other xs at j (Some new) (eqb-false j at other))

  key_set : (j : ℕ) → correct_in (slice_get (slice_set xs at (Some new)) j) ≡ (if nat_eq j at then Some new else correct_in (slice_get xs j))
  key_set j = key_at j (nat_eq j at) refl

pub key_now : (k : Keyed) (liar : Party) (key new : SealerState) → key_in k liar ≡ Some key → (other : Party) → key_in (with_key k liar (Some new)) other ≡ (if same_party other liar then Some new else key_in k other)
key_now k (parties.Replica id) key new there (parties.Replica j) = key_set k.replicas id.0 key new there j.0
key_now k (parties.Replica id) key new there (parties.Client j) = refl
key_now k (parties.Client id) key new there (parties.Replica j) = refl
key_now k (parties.Client id) key new there (parties.Client j) = key_set k.clients id.0 key new there j.0

same_is : (a b : Party) → same_party a b ≡ true → a ≡ b
same_is (parties.Replica a) (parties.Replica b) same = let n : a.0 ≡ b.0 = eqb-true a.0 b.0 same in ap (λ (k : ℕ). parties.Replica (record { 0 = k })) n
same_is (parties.Client a) (parties.Client b) same = let n : a.0 ≡ b.0 = eqb-true a.0 b.0 same in ap (λ (k : ℕ). parties.Client (record { 0 = k })) n
same_is (parties.Replica a) (parties.Client b) same = absurd cc
same_is (parties.Client a) (parties.Replica b) same = absurd cc

module _ {S : Type 0} (seats : Seated S) (setup : Setup) (used : Party → ℕ) (k : Keyed) (shows : ShowsKeys seats setup used k) (liar : Party) (lies : is_liar_seat (seat_of seats liar) ≡ true)
    (left : used liar < signatures_by setup.height) where
  abbrev used_at : Bool → Party → ℕ
  used_at same other = if same then used other + 1 else used other

  key_of_other : (other : Party) (b : Bool) → same_party other liar ≡ b → key_in k other ≡ Some (sealer_of setup other (used other))
      → (if b then Some (spent_one (sealer_of setup liar (used liar))) else key_in k other) ≡ Some (sealer_of setup other (used_at b other))
  key_of_other other true same has = ap (λ (p : Party). Some (sealer_of setup p (used p + 1))) (sym (same_is other liar same))
  key_of_other other false differs has = has

  used_within : (other : Party) (b : Bool) → same_party other liar ≡ b → used other ≤ signatures_by setup.height → used_at b other ≤ signatures_by setup.height
  used_within other true same within = let like : used other ≡ used liar = ap used (same_is other liar same) in omega (arith, like, left)
  used_within other false differs within = within

  keys_spent : ShowsKeys seats setup (λ other. if same_party other liar then used other + 1 else used other) (with_key k liar (Some (spent_one (sealer_of setup liar (used liar)))))
  keys_spent =
      record {
        keys = λ other is. key_now k liar (sealer_of setup liar (used liar)) (spent_one (sealer_of setup liar (used liar))) (shows.keys liar lies) other
            ∙ key_of_other other (same_party other liar) refl (shows.keys other is);
        within = λ other is. used_within other (same_party other liar) refl (shows.within other is);
      }

pub shows_spent : {S : Type 0} (g : World S) (v : Shown S) (liar : Party) (keys : Keyed) → Shows g v → is_liar_seat (seat_of v.seats liar) ≡ true → g.used liar < signatures_in g
    → keys ≡ with_key v.liars liar (Some (spent_one (sealer_of g.setup liar (g.used liar)))) → Shows (spent g liar) (record v { liars = keys })
shows_spent {S = S} g v liar keys s lies left is =
    record {
      setup = s.setup;
      keys = s.keys;
      seats = s.seats;
      liars = subst (λ (k : Keyed). ShowsKeys v.seats g.setup (λ other. if same_party other liar then g.used other + 1 else g.used other) k) (sym is)
          (keys_spent v.seats g.setup g.used v.liars s.liars liar lies left);
      mails = s.mails;
      past = s.past;
      mutes = s.mutes;
      agreed = s.agreed;
      texts = s.texts;
      said = s.said;
    }

-- ---- lies and forged frames, by the definitions

if_false : {A : Type 0} (b : Bool) (x y : A) → b ≡ false → (if b then x else y) ≡ y
if_false b x y is = ap (λ (c : Bool). if c then x else y) is

pub no_lie : {S : Type 0} (w : World S) (liar : Party) (to : List Party) (told : Option Telling) → (is_liar w liar && are_parties w to) ≡ false → lie w liar to told ≡ no_subject w
no_lie w liar to None is = refl
no_lie w liar to (Some telling) is = if_false (is_liar w liar && are_parties w to) _ (no_subject w) is

pub no_forge : {S : Type 0} (w : World S) (party : Party) (to : List Party) (told : Option Telling) → (is_correct w party && are_parties w to) ≡ false → forge w party to told ≡ no_subject w
no_forge w party to None is = refl
no_forge w party to (Some telling) is = if_false (is_correct w party && are_parties w to) _ (no_subject w) is

module _ {S : Type 0} (w : World S) (liar : Party) (to : List Party) (told : Option Telling) (telling : Telling) (tells : told ≡ Some telling) (is : (is_liar w liar && are_parties w to) ≡ true) where
  abbrev sent_by : List ℕ → Happened S
  sent_by bytes = Goes (with_sent (spent w liar) (copies bytes to)) notes.Quiet

  abbrev frame : List ℕ
  frame = spelling_of (telling (sealer_of w.setup liar (w.used liar)))

  lie_tried : (left : Bool) → nat_lt (w.used liar) (signatures_in w) ≡ left → lie w liar to told ≡ (if left then sent_by frame else Goes w (notes.Refused None causes.KeySpent))
  lie_tried left has =
      ap (lie w liar to) tells ∙ ap₂ (λ (b c : Bool). if b then (if c then sent_by frame else Goes w (notes.Refused None causes.KeySpent)) else no_subject w) is has

  pub lie_sent : (bytes : List ℕ) → w.used liar < signatures_in w → bytes ≡ frame → lie w liar to told ≡ Goes (with_sent (spent w liar) (copies bytes to)) notes.Quiet
  lie_sent bytes left spelled = lie_tried true (lt-ltb (w.used liar) (signatures_in w) left) ∙ ap sent_by (sym spelled)

  pub lie_unsent : signatures_in w ≤ w.used liar → lie w liar to told ≡ Goes w (notes.Refused None causes.KeySpent)
  lie_unsent used = lie_tried false (le-ltb (w.used liar) (signatures_in w) used)

pub forge_sent : {S : Type 0} (w : World S) (party : Party) (to : List Party) (telling : Telling) (bytes : List ℕ) → (is_correct w party && are_parties w to) ≡ true
    → bytes ≡ spelling_of (telling (sealer_of w.setup party (signatures_in w - 1))) → forge w party to (Some telling) ≡ Goes (with_sent w (copies bytes to)) notes.Quiet
forge_sent w party to telling bytes is spelled =
    ap (λ (b : Bool). if b then Goes (with_sent w (copies (spelling_of (telling (sealer_of w.setup party (signatures_in w - 1)))) to)) notes.Quiet else no_subject w) is
    ∙ ap (λ (l : List ℕ). Goes (with_sent w (copies l to)) notes.Quiet) (sym spelled)

-- ---- the requests of a history

pub requests_is : {S : Type 0} (g : World S) (numbers : List ℕ) → requests_at g numbers ≡ requests_in g.bag numbers
requests_is g [] = refl
requests_is {S = S} g (number ∷ more) =
    ap₂ (λ (mail : Option Mail) (rest : Option (List (Signed Ask))). option_and_then (λ ask. option_map (λ asks. ask ∷ asks) rest) (option_and_then (λ m. request_read (frame_in m.bytes)) mail))
    (mail_is g number) (requests_is g more)

pub told_if : (liar : Party) (tell : List (Signed Ask) → Option Telling) (found : Option (List (Signed Ask))) → by_replica liar (option_and_then tell found) ≡ option_and_then tell (if_replica liar found)
told_if (parties.Replica id) tell found = refl
told_if (parties.Client id) tell found = refl

pub last_there : (asks : List (Signed Ask)) (d : Signed Ask) → 1 ≤ length asks → (last : Signed Ask) × (last_of asks ≡ Some last)
last_there asks d some = (_, slice_get-get_or asks (length asks - 1) d (omega (arith, some)))
