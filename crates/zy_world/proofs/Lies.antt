-- A liar or a forger signs a frame, and the world goes on.
use Rattle.std.proofs.Common.{◌≡◌, ◌≢◌, ℕ, suc, ◌-◌, ◌<◌, ◌≤◌, Bool, true, false, ◌&&◌, List, [], ◌∷◌, length, Option, Some, None, Result, Ok, Err, refl, sym, ap, ap₂, ◌∙◌, subst, true≢false, arith}
use Rattle.std.specs.Prelude.{option_map, if◌then◌else◌, IfNone, IfOk, IfSome, OnOk}
use Rattle.std.specs.Option.{option_and_then}
use Rattle.std.proofs.lemmas.Bool.{leb-true, le-leb, lt-leb}
use Rattle.std.proofs.lemmas.Option.{same_Some}
use Rattle.zy_base.specs.declared.cause.Cause.TheVariants as causes
use Rattle.zy_base.specs.declared.ids.Party.{Party}
use Rattle.zy_parts.specs.declared.signed.Signed.{Signed}
use Rattle.zy_parts.specs.declared.statements.Ask.{Ask}
use Rattle.zy_seal.specs.Sealing.{SealerState, spent_one, signatures_by}
use Rattle.zy_seal.specs.declared.sealer.SealFault.{SealFault}
use Rattle.zy_world_setup.specs.Telling.{IsEncoded, IsToldBy, telling_of}
use Rattle.zy_world_setup.specs.declared.tellable.Tellable.{Tellable}
use Rattle.zy_world_setup.proofs.FrameLengths.{told_long}
use Rattle.zy_table.specs.Sending.{copies, spelling_of}
use Rattle.zy_wire.specs.Kind.{frame_limit}
use Rattle.zy_world.specs.Shown.{Shown, Keyed, seat_of, is_liar_seat, key_in, with_key, request_in, requests_in}
use Rattle.zy_world.specs.Shows.{Shows}
use Rattle.zy_world.specs.Tale.{IsAnswered, IsSigned, IsSpent, IsTale, can_forge, can_lie, if_replica, is_short_tale, is_statement, told_by, told_in}
use Rattle.zy_world.specs.declared.tale.Tale.{Tale}
use Rattle.zy_world.specs.declared.tale.Tale.TheVariants as tales
use Rattle.zy_world_law.specs.Events.{lie, forge, signatures_in, no_subject, spent}
use Rattle.zy_world_law.specs.Events.Happened.{Goes}
use Rattle.zy_world_law.specs.Liars.{Telling, by_replica, if_short, is_short, last_of, requests_at}
use Rattle.zy_world_law.specs.Setup.{Setup, sealer_of}
use Rattle.zy_world_law.specs.World.{World, Mail, is_liar, is_correct, are_parties, with_sent}
use Rattle.zy_world_law.specs.declared.note.Note.TheVariants as notes
use Rattle.zy_world.proofs.Lied.{lies_is, is_right, all_there, shows_spent, lie_sent, lie_unsent, forge_sent, requests_is, told_if, last_there}

-- ---- what is told can be signed

history_told : (tell : Signed Ask → Telling) (asks : List (Signed Ask)) → 1 ≤ length asks → (telling : Telling) × (option_map tell (last_of asks) ≡ Some telling)
history_told tell [] some = absurd (omega (arith, some))
history_told tell (ask ∷ more) some = let last = last_there (ask ∷ more) ask some in (tell last.0, ap (option_map tell) last.1)

pub told_there : (tale : Tale) → IsTale tale → (telling : Telling) × (told_in tale ≡ Some telling)
told_there (tales.Order view asks) is = history_told _ asks is.some
told_there (tales.Spec view asks reply) is = history_told _ asks is.0.some
told_there (tales.Statement statement) is = (telling_of statement, refl)

-- ---- who may

pub can_lie_is : {S : Type 0} (g : World S) (v : Shown S) → Shows g v → (liar : Party) (to : List Party) → (is_liar g liar && are_parties g to) ≡ can_lie v.seats liar to
can_lie_is g v s liar to = ap₂ (λ (a b : Bool). a && b) (lies_is g v s liar) (all_there g v s to)

pub can_forge_is : {S : Type 0} (g : World S) (v : Shown S) → Shows g v → (party : Party) (to : List Party) → (is_correct g party && are_parties g to) ≡ can_forge v.seats party to
can_forge_is g v s party to = ap₂ (λ (a b : Bool). a && b) (is_right g v s party) (all_there g v s to)

-- ---- a liar signs

first_true : (a b : Bool) → (a && b) ≡ true → a ≡ true
first_true true b is = refl
first_true false b is = is

module _ {S : Type 0} (g : World S) (v : Shown S) (s : Shows g v) (liar : Party) (to : List Party) (can : (is_liar g liar && are_parties g to) ≡ true) where
  pub lies : is_liar_seat (seat_of v.seats liar) ≡ true
  lies = sym (lies_is g v s liar) ∙ first_true (is_liar g liar) (are_parties g to) can

  pub has_key : key_in v.liars liar ≡ Some (sealer_of g.setup liar (g.used liar))
  has_key = s.liars.keys liar lies

  -- the same key, by the setup that is shown
  pub shown_key : key_in v.liars liar ≡ Some (sealer_of v.setup liar (g.used liar))
  shown_key = subst (λ (setup : Setup). key_in v.liars liar ≡ Some (sealer_of setup liar (g.used liar))) s.setup has_key

  module _ (tale : Tale) (keys : Keyed) where
    of_short : (b : Bool) → is_short_tale g.setup liar tale ≡ b → told_by g.setup liar tale ≡ (if b then told_in tale else None)
    of_short b is = ap (λ (c : Bool). if c then told_in tale else None) is

    module _ (bytes : List ℕ) (shown : IsSigned v.setup liar (g.used liar) tale v.liars keys bytes) where
      signed : IsSigned g.setup liar (g.used liar) tale v.liars keys bytes
      signed = subst (λ (setup : Setup). IsSigned setup liar (g.used liar) tale v.liars keys bytes) (sym s.setup) shown

      number_left : g.used liar < signatures_in g
      number_left = let within : g.used liar ≤ signatures_in g = s.liars.within liar lies in omega (arith, within, signed.left)

      pub lied : lie g liar to (told_by g.setup liar tale) ≡ Goes (with_sent (spent g liar) (copies bytes to)) notes.Quiet
      lied = lie_sent g liar to (told_by g.setup liar tale) signed.told.0 (of_short true signed.short ∙ signed.told.1) can bytes number_left signed.told.2.0

      pub shows_lied : Shows (spent g liar) (record v { liars = keys })
      shows_lied = shows_spent g v liar keys s lies number_left signed.spent

    pub lied_too_long : is_short_tale v.setup liar tale ≡ false → lie g liar to (told_by g.setup liar tale) ≡ no_subject g
    lied_too_long long = ap (lie g liar to) (of_short false (subst (λ (setup : Setup). is_short_tale setup liar tale ≡ false) (sym s.setup) long))

    pub unlied : IsTale tale → IsSpent v.setup liar (g.used liar) tale v.liars keys → lie g liar to (told_by g.setup liar tale) ≡ Goes g (notes.Refused None causes.KeySpent)
    unlied can_tell shown =
        let spent_there : IsSpent g.setup liar (g.used liar) tale v.liars keys = subst (λ (setup : Setup). IsSpent setup liar (g.used liar) tale v.liars keys) (sym s.setup) shown in
        let told = told_there tale can_tell in
        lie_unsent g liar to (told_by g.setup liar tale) told.0 (of_short true spent_there.short ∙ told.1) can (omega (arith, spent_there.spent))

-- no signature was spent
pub same_keys : {S : Type 0} (g : World S) (v : Shown S) → Shows g v → (keys : Keyed) → keys ≡ v.liars → Shows g (record v { liars = keys })
same_keys g v s keys is = subst (λ (k : Keyed). Shows g (record v { liars = k })) (sym is) s

-- ---- what a liar's key answers

-- a statement that isn't too long by its first signature is so by none
module _ (statement : Tellable) (setup : Setup) (party : Party) (number : ℕ) where
  short_by_each : is_short setup party (telling_of statement) ≡ true → length (spelling_of (telling_of statement (sealer_of setup party number))) ≤ frame_limit
  short_by_each short =
      let first = leb-true (length (spelling_of (telling_of statement (sealer_of setup party 0)))) frame_limit short in
      omega (arith, first, told_long statement (sealer_of setup party 0), told_long statement (sealer_of setup party number))

  pub short_since : length (spelling_of (telling_of statement (sealer_of setup party number))) ≤ frame_limit → is_short setup party (telling_of statement) ≡ true
  short_since fits =
      le-leb (length (spelling_of (telling_of statement (sealer_of setup party 0)))) frame_limit
      (omega (arith, fits, told_long statement (sealer_of setup party 0), told_long statement (sealer_of setup party number)))

  pub long_since : frame_limit < length (spelling_of (telling_of statement (sealer_of setup party number))) → is_short setup party (telling_of statement) ≡ false
  long_since long =
      lt-leb (length (spelling_of (telling_of statement (sealer_of setup party 0)))) frame_limit
      (omega (arith, long, told_long statement (sealer_of setup party 0), told_long statement (sealer_of setup party number)))

  never_long : is_short setup party (telling_of statement) ≡ true → IsToldBy (Some (telling_of statement)) (sealer_of setup party number) None → ⊥
  never_long short told =
      let fits = short_by_each short in
      let long : frame_limit < length (spelling_of (telling_of statement (sealer_of setup party number))) =
      subst (λ (t : Telling). frame_limit < length (spelling_of (t (sealer_of setup party number)))) (sym (same_Some (telling_of statement) told.0 told.1)) told.2 in
      omega (arith, fits, long)

module _ (setup : Setup) (liar : Party) (number : ℕ) (old new : Keyed) where
  abbrev by_next : SealerState
  by_next = sealer_of setup liar number

  answered_by : (tale : Tale) (bytes : Option (List ℕ)) → is_short_tale setup liar tale ≡ true → IsToldBy (told_in tale) by_next bytes → IfNone bytes (is_statement tale ≡ true)
      → number ≢ signatures_by setup.height → new ≡ with_key old liar (Some (spent_one by_next)) → IsAnswered setup liar number tale old new bytes
  answered_by tale (Some bytes) short told long left put =
      record {
        short = short;
        told = told;
        left = left;
        spent = put;
      }
  answered_by (tales.Order view asks) None short told long left put = absurd (true≢false (sym long))
  answered_by (tales.Spec view asks reply) None short told long left put = absurd (true≢false (sym long))
  answered_by (tales.Statement statement) None short told long left put = absurd (never_long statement setup liar number short told)

  pub answered : (tale : Tale) (r : Result (Option (List ℕ)) SealFault) → is_short_tale setup liar tale ≡ true → IfOk r (IsToldBy (told_in tale) by_next) → IfOk r (λ bytes. IfNone bytes (is_statement tale ≡ true))
      → OnOk r (number ≢ signatures_by setup.height) → OnOk r (new ≡ with_key old liar (Some (spent_one by_next))) → IfOk r (IsAnswered setup liar number tale old new)
  answered tale (Ok bytes) short told long left put = answered_by tale bytes short told long left put
  answered tale (Err fault) short told long left put = tt

-- ---- whoever made a key anew signs

module _ {S : Type 0} (g : World S) (v : Shown S) (s : Shows g v) (party : Party) (to : List Party) (statement : Tellable) (can : (is_correct g party && are_parties g to) ≡ true) where
  abbrev by_last : Setup → SealerState
  by_last setup = sealer_of setup party (signatures_by setup.height - 1)

  by_last_one : (bytes : Option (List ℕ)) → IsEncoded (telling_of statement (by_last v.setup)) bytes → IsEncoded (telling_of statement (by_last g.setup)) bytes
  by_last_one bytes spelled = subst (λ (setup : Setup). IsEncoded (telling_of statement (by_last setup)) bytes) (sym s.setup) spelled

  of_statement : (b : Bool) → is_short g.setup party (telling_of statement) ≡ b → if_short g.setup party (Some (telling_of statement)) ≡ (if b then Some (telling_of statement) else None)
  of_statement b is = ap (λ (c : Bool). if c then Some (telling_of statement) else None) is

  pub forged_as : (bytes : List ℕ) → IsEncoded (telling_of statement (by_last v.setup)) (Some bytes) → forge g party to (if_short g.setup party (Some (telling_of statement))) ≡ Goes (with_sent g (copies bytes to)) notes.Quiet
  forged_as bytes shown =
      let spelled = by_last_one (Some bytes) shown in
      let fits : length (spelling_of (telling_of statement (by_last g.setup))) ≤ frame_limit = subst (λ (l : List ℕ). length l ≤ frame_limit) spelled.0 spelled.1 in
      ap (forge g party to) (of_statement true (short_since statement g.setup party (signatures_in g - 1) fits)) ∙ forge_sent g party to (telling_of statement) bytes can spelled.0

  pub forged_too_long : IsEncoded (telling_of statement (by_last v.setup)) None → forge g party to (if_short g.setup party (Some (telling_of statement))) ≡ no_subject g
  forged_too_long long = ap (forge g party to) (of_statement false (long_since statement g.setup party (signatures_in g - 1) (by_last_one None long)))

-- ---- the requests of a history

pub requests_shown : {S : Type 0} (g : World S) (v : Shown S) → Shows g v → (numbers : List ℕ) → requests_in v.bag.mails numbers ≡ requests_at g numbers
requests_shown g v s numbers = ap (λ (mails : List Mail). requests_in mails numbers) (sym s.mails) ∙ sym (requests_is g numbers)

long_next : (ask : Option (Signed Ask)) (rest : Option (List (Signed Ask))) (n : ℕ) → ((asks : List (Signed Ask)) → rest ≡ Some asks → length asks ≡ n)
    → (asks : List (Signed Ask)) → option_and_then (λ first. option_map (λ more. first ∷ more) rest) ask ≡ Some asks → length asks ≡ suc n
long_next None rest n long asks is = cc
long_next (Some ask) None n long asks is = cc
long_next (Some ask) (Some rest) n long asks is = ap length (sym (same_Some (ask ∷ rest) asks is)) ∙ ap suc (long rest refl)

pub requests_long : (mails : List Mail) (numbers : List ℕ) (asks : List (Signed Ask)) → requests_in mails numbers ≡ Some asks → length asks ≡ length numbers
requests_long mails [] asks is = ap length (sym (same_Some [] asks is))
requests_long mails (number ∷ more) asks is = long_next (request_in mails number) (requests_in mails more) (length more) (requests_long mails more) asks is

pub long_if : (mails : List Mail) (numbers : List ℕ) (found : Option (List (Signed Ask))) → found ≡ requests_in mails numbers → IfSome found (λ asks. length asks ≡ length numbers)
long_if mails numbers None is = tt
long_if mails numbers (Some asks) is = requests_long mails numbers asks (sym is)

pub if_ok : {A E : Type 0} {P Q : A → Type 0} (r : Result A E) → ((x : A) → P x → Q x) → IfOk r P → IfOk r Q
if_ok (Ok x) f p = f x p
if_ok (Err e) f p = p

pub lie_told : {S : Type 0} (w : World S) (liar : Party) (to : List Party) (tell : List (Signed Ask) → Option Telling) (asked found : Option (List (Signed Ask))) → found ≡ if_replica liar asked
    → lie w liar to (by_replica liar (option_and_then tell asked)) ≡ lie w liar to (option_and_then tell found)
lie_told w liar to tell asked found is = ap (lie w liar to) (told_if liar tell asked ∙ ap (option_and_then tell) (sym is))
