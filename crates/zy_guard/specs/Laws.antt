-- The guarded space keeps the laws of a replicated machine: it starts in a state, every operation leads to a state,
-- replies and spellings are short, and what is spelled is read back.
use Rattle.std.proofs.Common.{◌≡◌, ℕ, zero, suc, ◌*◌, ◌<◌, ◌≤◌, Bool, true, false, cond, inl, inr, List, [], ◌∷◌, ◌++◌, length, Result, Ok, Err, Option, Some, None, refl, sym, ap, ◌∙◌, subst, arith, lit<, lit≤}
use Rattle.std.specs.Prelude.{nat_lt, nat_le}
use Rattle.std.specs.Int.{Width, w8, w16, w64, byte_len, byte_at, bytes_high_first, cast_unsigned}
use Rattle.std.specs.List.{AllByRecursion, flat_map}
use Rattle.std.proofs.lemmas.Bool.{and_parts, and_from, cases_Bool, ltb-true, ltb-false, lt-ltb, leb-true, le-leb}
use Rattle.std.proofs.lemmas.Bool.Decides.{eqb_tells}
use Rattle.std.proofs.lemmas.Option.{same_Some}
use Rattle.std.proofs.lemmas.List.{length-append}
use Rattle.std.proofs.lemmas.List.Folds.{list_all-append}
use Rattle.std.proofs.lemmas.List.Elements.{All-from_recursion, recursion_from_All}
use Rattle.zy_base.specs.declared.ids.ClientId.{ClientId}
use Rattle.zy_base.specs.declared.frame_fault.FrameFault.{FrameFault}
use Rattle.zy_slots.proofs.ListLemmas.{all_split}
use Rattle.zy_wire.specs.Spelling.{IsBytes, IsExact, bytes_of, whole}
use Rattle.zy_wire.specs.Fields.{list_bytes, FitsList}
use Rattle.zy_wire.proofs.Parts.{whole_takes, whole_again}
use Rattle.zy_wire.proofs.Laws.{list-exact}
use Rattle.zy_tuple.specs.declared.values.Field.{Field}
use Rattle.zy_tuple.specs.declared.values.Field.TheVariants.{Int, Text}
use Rattle.zy_tuple.specs.declared.values.Slot.{Slot as TemplateSlot}
use Rattle.zy_tuple.specs.declared.values.Reply.{Reply}
use Rattle.zy_tuple.specs.declared.values.Reply.TheVariants.{Done, Got, Nothing, True, False, Full, Bad}
use Rattle.zy_tuple.specs.Values.{IsPrintable, IsField, IsTuple, IsReply}
use Rattle.zy_tuple.specs.Bytes.{byte, field_bytes, few_bytes, tuple_bytes, reply_bytes}
use Rattle.zy_guard.specs.declared.values.Access.{Access}
use Rattle.zy_guard.specs.declared.values.Owned.{Owned}
use Rattle.zy_guard.specs.declared.values.Denial.{Denial}
use Rattle.zy_guard.specs.declared.values.GuardOp.{GuardOp}
use Rattle.zy_guard.specs.declared.values.GuardOp.TheVariants.{Out, Rdp, Inp, Cas}
use Rattle.zy_guard.specs.declared.values.GuardReply.{GuardReply}
use Rattle.zy_guard.specs.declared.values.GuardReply.TheVariants.{Plain, Denied}
use Rattle.zy_guard.specs.GuardedSpace.{may_take, visible, IsGuardOp, IsGuardReply, IsOwned, owned_by, IsGuardState, oldest, inserted, owned_of, found, taken, unless_found, allowed_step, op_denial, denial, unless_denied}
use Rattle.zy_guard.specs.Bytes.{access_spelling, out_spelling, op_in, guard_reply_bytes, owned_bytes, owned_spelling}
use Rattle.zy_guard.specs.Service.{is_bytes, answered, ran, state_in, state_spelling, is_few_below, few_of}
use Rattle.zy_guard.specs.SpaceLaws.{removed_state, added_state, state_few, denial_none, owned_is, split_seen}
use Rattle.zy_guard.specs.BytesLaws.{op_takes, owned-exact}

-- ---- every step leads to a state

pub starts : IsGuardState []
starts = record { each = tt; few = λ client. omega arith }

inserted_state : (owned : Owned) (reply : Reply) (state : List Owned) → IsOwned owned → IsGuardState state → IsGuardState (inserted owned reply state).state
inserted_state owned reply state is was =
    elim (cases_Bool (nat_lt (owned_by owned.owner.0 state) 64)) [
      | inl room ↦ rw room (added_state owned state is (ltb-true (owned_by owned.owner.0 state) 64 room) was)
      | inr full ↦ rw full was
    ]

taken_state : (client : ℕ) (template : List TemplateSlot) (match : Option Owned) (state : List Owned) → oldest template (visible client state) ≡ match → IsGuardState state → IsGuardState (taken client template match state).state
taken_state client template None state is was = was
taken_state client template (Some owned) state is was =
    elim (cases_Bool (may_take client owned)) [
      | inl takes ↦
          let split = split_seen client template state owned is in
          rw takes (subst IsGuardState (sym split.after) (removed_state split.front owned split.back (subst IsGuardState split.before was)))
      | inr other ↦ rw other was
    ]

unless_found_state : (match : Option Owned) (owned : Owned) (state : List Owned) → IsOwned owned → IsGuardState state → IsGuardState (unless_found match state (inserted owned True state)).state
unless_found_state None owned state is was = inserted_state owned True state is was
unless_found_state (Some other) owned state is was = was

allowed_state : (client : ℕ) (op : GuardOp) (state : List Owned) → client < 64 → op_denial client op ≡ None → IsGuardOp op → IsGuardState state → IsGuardState (allowed_step client op state).state
allowed_state client (Out access tuple) state small none fits was = inserted_state (owned_of client access tuple) Done state (owned_is client access tuple small none fits.0 fits.1) was
allowed_state client (Rdp template) state small none fits was = was
allowed_state client (Inp template) state small none fits was = taken_state client template (oldest template (visible client state)) state refl was
allowed_state client (Cas template access tuple) state small none fits was =
    unless_found_state (oldest template (visible client state)) (owned_of client access tuple) state (owned_is client access tuple small none fits.1 fits.2) was

denied_or_not : (client : ℕ) (op : GuardOp) (state : List Owned) (denied : Option Denial) → denial client op ≡ denied → IsGuardOp op → IsGuardState state → IsGuardState (unless_denied denied state (allowed_step client op state)).state
denied_or_not client op state None none fits was = let allowed = denial_none client op none in allowed_state client op state allowed.0 allowed.1 fits was
denied_or_not client op state (Some why) is fits was = was

answered_state : (client : ℕ) (bytes : List ℕ) (read : Result GuardOp FrameFault) (state : List Owned) → op_in bytes ≡ read → IsBytes bytes → IsGuardState state → IsGuardState (answered client read state).state
answered_state client bytes (Ok op) state is fits was = denied_or_not client op state (denial client op) refl (op_takes bytes op fits is).0 was
answered_state client bytes (Err fault) state is fits was = was

bytes_fit : (bytes : List ℕ) → is_bytes bytes ≡ true → IsBytes bytes
bytes_fit [] are i = lit< tt
bytes_fit (b ∷ bytes) are zero = ltb-true b 256 (and_parts (nat_lt b 256) (is_bytes bytes) are).0
bytes_fit (b ∷ bytes) are (suc i) = bytes_fit bytes (and_parts (nat_lt b 256) (is_bytes bytes) are).1 i

pub stays : (state : List Owned) (client : ClientId) (bytes : List ℕ) → IsGuardState state → IsGuardState (ran client.0 bytes state).state
unfolding ran
stays state client bytes was =
    elim (cases_Bool (is_bytes bytes)) [
      | inl are ↦ rw are (answered_state client.0 bytes (op_in bytes) state refl (bytes_fit bytes are) was)
      | inr not_bytes ↦ rw not_bytes was
    ]

-- ---- replies and spellings are short

oldest_fits : (client : ℕ) (template : List TemplateSlot) (state : List Owned) → AllByRecursion IsOwned state → IsReply (found (oldest template (visible client state)))
oldest_fits client template state all = found_fits (oldest template (visible client state)) refl
  where
    found_fits : (match : Option Owned) → oldest template (visible client state) ≡ match → IsReply (found match)
    found_fits None is = tt
    found_fits (Some owned) is =
        let split = split_seen client template state owned is in
        (all_split IsOwned split.front owned split.back (subst (AllByRecursion IsOwned) split.before all)).1.fields

inserted_reply : (owned : Owned) (reply : Reply) (state : List Owned) → IsReply reply → IsGuardReply (inserted owned reply state).reply
inserted_reply owned reply state fits =
    elim (cases_Bool (nat_lt (owned_by owned.owner.0 state) 64)) [ inl room ↦ rw room fits | inr full ↦ rw full tt ]

taken_reply : (client : ℕ) (template : List TemplateSlot) (match : Option Owned) (state : List Owned) → IsReply (found match) → IsGuardReply (taken client template match state).reply
taken_reply client template None state fits = tt
taken_reply client template (Some owned) state fits =
    elim (cases_Bool (may_take client owned)) [ inl takes ↦ rw takes fits | inr other ↦ rw other tt ]

unless_found_reply : (match : Option Owned) (owned : Owned) (state : List Owned) → IsGuardReply (unless_found match state (inserted owned True state)).reply
unless_found_reply None owned state = inserted_reply owned True state tt
unless_found_reply (Some other) owned state = tt

allowed_reply : (client : ℕ) (op : GuardOp) (state : List Owned) → AllByRecursion IsOwned state → IsGuardReply (allowed_step client op state).reply
allowed_reply client (Out access tuple) state all = inserted_reply (owned_of client access tuple) Done state tt
allowed_reply client (Rdp template) state all = oldest_fits client template state all
allowed_reply client (Inp template) state all = taken_reply client template (oldest template (visible client state)) state (oldest_fits client template state all)
allowed_reply client (Cas template access tuple) state all = unless_found_reply (oldest template (visible client state)) (owned_of client access tuple) state

denied_reply : (client : ℕ) (op : GuardOp) (state : List Owned) (denied : Option Denial) → AllByRecursion IsOwned state → IsGuardReply (unless_denied denied state (allowed_step client op state)).reply
denied_reply client op state None all = allowed_reply client op state all
denied_reply client op state (Some why) all = tt

answered_reply : (client : ℕ) (read : Result GuardOp FrameFault) (state : List Owned) → AllByRecursion IsOwned state → IsGuardReply (answered client read state).reply
answered_reply client (Ok op) state all = denied_reply client op state (denial client op) all
answered_reply client (Err fault) state all = tt

ran_reply : (client : ℕ) (bytes : List ℕ) (state : List Owned) → AllByRecursion IsOwned state → IsGuardReply (ran client bytes state).reply
unfolding ran
ran_reply client bytes state all =
    elim (cases_Bool (is_bytes bytes)) [
      | inl are ↦ rw are (answered_reply client (op_in bytes) state all)
      | inr not_bytes ↦ rw not_bytes tt
    ]

field_short : (x : Field) → IsField x → length (field_bytes x) ≤ 66
unfolding bytes_of
field_short (Int n) fits = lit≤ tt
field_short (Text text) fits = omega (arith, fits.0)

fields_short : (fields : List Field) → AllByRecursion IsField fields → length (flat_map field_bytes fields) ≤ 66 * length fields
fields_short [] all = omega arith
fields_short (x ∷ fields) all = omega (arith, length-append (field_bytes x) (flat_map field_bytes fields), field_short x all.0, fields_short fields all.1)

tuple_short : (fields : List Field) → IsTuple fields → length (tuple_bytes fields) ≤ 529
unfolding few_bytes bytes_of
tuple_short fields fits = omega (arith, fields_short fields fits.1, fits.0.1)

owned_short : (owned : Owned) → IsOwned owned → length (owned_spelling.spell owned) ≤ 546
unfolding bytes_of owned_bytes
owned_short owned is = omega (arith, tuple_short owned.tuple is.fields)

state_short : (state : List Owned) → AllByRecursion IsOwned state → length (flat_map owned_spelling.spell state) ≤ 546 * length state
state_short [] all = omega arith
state_short (owned ∷ state) all =
    omega (arith, length-append (owned_spelling.spell owned) (flat_map owned_spelling.spell state), owned_short owned all.0, state_short state all.1)

pub short_spelling : (state : List Owned) → IsGuardState state → length (state_spelling.spell state) ≤ 2300000
unfolding list_bytes bytes_of
short_spelling state is = omega (arith, state_short state is.each, state_few state is)

plain_short : (reply : Reply) → IsReply reply → length (reply_bytes reply) ≤ 1100
unfolding bytes_of
plain_short Done fits = lit≤ tt
plain_short (Got tuple) fits = omega (arith, tuple_short tuple fits)
plain_short Nothing fits = lit≤ tt
plain_short True fits = lit≤ tt
plain_short False fits = lit≤ tt
plain_short Full fits = lit≤ tt
plain_short Bad fits = lit≤ tt

pub reply_short : (reply : GuardReply) → IsGuardReply reply → length (guard_reply_bytes reply) ≤ 1100
unfolding bytes_of
reply_short (Plain reply) fits = plain_short reply fits
reply_short (Denied why) fits = lit≤ tt

pub short_reply : (state : List Owned) (client : ClientId) (bytes : List ℕ) → IsGuardState state → length (guard_reply_bytes (ran client.0 bytes state).reply) ≤ 1100
short_reply state client bytes is = reply_short (ran client.0 bytes state).reply (ran_reply client.0 bytes state is.each)

-- ---- what is spelled is read back

printable_bytes : (text : List ℕ) → AllByRecursion IsPrintable text → is_bytes text ≡ true
printable_bytes [] all = refl
printable_bytes (c ∷ text) all = and_from (nat_lt c 256) (is_bytes text) (lt-ltb c 256 (omega (arith, all.0.1))) (printable_bytes text all.1)

both_bytes : (a b : List ℕ) → is_bytes a ≡ true → is_bytes b ≡ true → is_bytes (a ++ b) ≡ true
both_bytes a b first second = list_all-append (λ c. nat_lt c 256) a b ∙ and_from (is_bytes a) (is_bytes b) first second

byte_below : (i n : ℕ) → byte_at i n < 256
byte_below zero n = omega arith
byte_below (suc i) n = omega arith

high_first_bytes : (count n : ℕ) → is_bytes (bytes_high_first count n) ≡ true
high_first_bytes zero n = refl
high_first_bytes (suc count) n = and_from (nat_lt (byte_at count n) 256) (is_bytes (bytes_high_first count n)) (lt-ltb (byte_at count n) 256 (byte_below count n)) (high_first_bytes count n)

number_bytes : (w : Width) (n : ℕ) → is_bytes (bytes_of w n) ≡ true
unfolding bytes_of
number_bytes w n = high_first_bytes (byte_len w) n

field_is_bytes : (x : Field) → IsField x → is_bytes (field_bytes x) ≡ true
field_is_bytes (Int n) fits = both_bytes (byte 1) (bytes_of w64 (cast_unsigned w64 n)) (number_bytes w8 1) (number_bytes w64 (cast_unsigned w64 n))
field_is_bytes (Text text) fits =
    both_bytes (byte 2) (byte (length text) ++ text) (number_bytes w8 2)
    (both_bytes (byte (length text)) text (number_bytes w8 (length text)) (printable_bytes text fits.1))

fields_are_bytes : (fields : List Field) → AllByRecursion IsField fields → is_bytes (flat_map field_bytes fields) ≡ true
fields_are_bytes [] all = refl
fields_are_bytes (x ∷ fields) all = both_bytes (field_bytes x) (flat_map field_bytes fields) (field_is_bytes x all.0) (fields_are_bytes fields all.1)

tuple_is_bytes : (tuple : List Field) → IsTuple tuple → is_bytes (tuple_bytes tuple) ≡ true
unfolding few_bytes
tuple_is_bytes tuple is = both_bytes (byte (length tuple)) (flat_map field_bytes tuple) (number_bytes w8 (length tuple)) (fields_are_bytes tuple is.1)

access_is_bytes : (access : Access) → is_bytes (access_spelling.spell access) ≡ true
access_is_bytes access = both_bytes (bytes_of w64 access.readers.0) (bytes_of w64 access.takers.0) (number_bytes w64 access.readers.0) (number_bytes w64 access.takers.0)

owned_is_bytes : (owned : Owned) → IsOwned owned → is_bytes (owned_spelling.spell owned) ≡ true
unfolding owned_bytes
owned_is_bytes owned is =
    both_bytes (byte owned.owner.0) (out_spelling.spell (owned.access, owned.tuple)) (number_bytes w8 owned.owner.0)
    (both_bytes (access_spelling.spell owned.access) (tuple_bytes owned.tuple) (access_is_bytes owned.access) (tuple_is_bytes owned.tuple is.fields))

all_are_bytes : (state : List Owned) → AllByRecursion IsOwned state → is_bytes (flat_map owned_spelling.spell state) ≡ true
all_are_bytes [] all = refl
all_are_bytes (owned ∷ state) all = both_bytes (owned_spelling.spell owned) (flat_map owned_spelling.spell state) (owned_is_bytes owned all.0) (all_are_bytes state all.1)

state_is_bytes : (state : List Owned) → IsGuardState state → is_bytes (state_spelling.spell state) ≡ true
unfolding list_bytes
state_is_bytes state is =
    both_bytes (bytes_of w16 (length state)) (flat_map owned_spelling.spell state) (number_bytes w16 (length state)) (all_are_bytes state is.each)

pub state-exact : IsExact state_spelling
state-exact = list-exact 0 4096 owned_spelling owned-exact (omega arith)

few_so_far : (clients : ℕ) (state : List Owned) → ((client : ℕ) → owned_by client state ≤ 64) → is_few_below clients state ≡ true
few_so_far zero state few = refl
few_so_far (suc client) state few = and_from (nat_le (owned_by client state) 64) (is_few_below client state) (le-leb (owned_by client state) 64 (few client)) (few_so_far client state few)

pub reads : (state : List Owned) → IsGuardState state → state_in (state_spelling.spell state) ≡ Some state
unfolding state_in
reads state is =
    let fits : FitsList IsOwned 0 4096 state = record { least = omega arith; most = state_few state is; each = All-from_recursion IsOwned state is.each } in
    rw (state_is_bytes state is, whole_again state_spelling state-exact state fits, few_so_far 64 state is.few) refl

few_at : (clients : ℕ) (state : List Owned) → is_few_below clients state ≡ true → (client : ℕ) → client < clients → owned_by client state ≤ 64
few_at zero state few client below = absurd (omega (arith, below))
few_at (suc clients) state few client below =
    let parts = and_parts (nat_le (owned_by clients state) 64) (is_few_below clients state) few in
    elim (eqb_tells client clients) [
      | inl same ↦ subst (λ (c : ℕ). owned_by c state ≤ 64) (sym same.1) (leb-true (owned_by clients state) 64 parts.0)
      | inr other ↦ few_at clients state parts.1 client (omega (arith, below, other.1))
    ]

none_above : (client : ℕ) (state : List Owned) → 64 ≤ client → AllByRecursion IsOwned state → owned_by client state ≡ 0
none_above client [] above all = refl
none_above client (owned ∷ state) above all =
    elim (eqb_tells owned.owner.0 client) [
      | inl same ↦ absurd (omega (arith, above, same.1, all.0.client))
      | inr other ↦ let rest = none_above client state above all.1 in rw other.0 (omega (arith, rest))
    ]

few_all : (state : List Owned) → is_few_below 64 state ≡ true → AllByRecursion IsOwned state → (client : ℕ) → owned_by client state ≤ 64
few_all state few all client =
    elim (cases_Bool (nat_lt client 64)) [
      | inl small ↦ few_at 64 state few client (ltb-true client 64 small)
      | inr great ↦ omega (arith, none_above client state (ltb-false client 64 great) all)
    ]

few_read : (b : Bool) (state one : List Owned) → cond b (Some state) None ≡ Some one → (b ≡ true) × (state ≡ one)
few_read true state one e = (refl, same_Some state one e)
few_read false state one e = absurd (cc)

read_state : (read : Result (List Owned) FrameFault) (state : List Owned) → few_of read ≡ Some state → (read ≡ Ok state) × (is_few_below 64 state ≡ true)
read_state (Ok list) state is =
    let parts = few_read (is_few_below 64 list) list state is in
    (ap Ok parts.1, subst (λ (l : List Owned). is_few_below 64 l ≡ true) parts.1 parts.0)
read_state (Err fault) state is = absurd (cc)

read_so : (bytes : List ℕ) (state : List Owned) → state_in bytes ≡ Some state → (bytes ≡ state_spelling.spell state) × IsGuardState state
unfolding state_in
read_so bytes state is =
    elim (cases_Bool (is_bytes bytes)) [
      | inl are ↦
          let parts = read_state (whole state_spelling bytes) state (rw are at is) in
          let t = whole_takes state_spelling state-exact bytes state (bytes_fit bytes are) parts.0 in
          let each = recursion_from_All IsOwned state t.1.each in
          (t.0, record { each = each; few = few_all state parts.1 each })
      | inr not_bytes ↦ let none : None ≡ Some state = rw not_bytes at is in absurd (cc)
    ]

pub reads_state : (bytes : List ℕ) (state : List Owned) → state_in bytes ≡ Some state → IsGuardState state
reads_state bytes state is = (read_so bytes state is).1

pub reads_spelled : (bytes : List ℕ) (state : List Owned) → state_in bytes ≡ Some state → state_spelling.spell state ≡ bytes
reads_spelled bytes state is = sym (read_so bytes state is).0
