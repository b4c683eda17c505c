-- What a client learns.
use Rattle.std.proofs.Common.{◌≡◌, ℕ, ◌+◌, ◌<◌, ◌≤◌, true, false, eqb, ltb, cond, List, [], ◌∷◌, ◌++◌, Option, Some, None, Result, Ok, Err, refl, sym, ap, ◌∙◌, subst, inl, inr, arith}
use Rattle.std.specs.List.{AllByRecursion}
use Rattle.std.proofs.lemmas.Bool.{cases_Bool, ltb-true, ltb-false, le-ltb}
use Rattle.std.proofs.lemmas.Bool.Decides.{eqb_tells}
use Rattle.std.proofs.lemmas.List.{append-nil}
use Rattle.std.proofs.lemmas.List.Elements.{filter-append}
use Rattle.std.proofs.lemmas.Option.{same_Some}
use Rattle.zy_base.specs.declared.frame_fault.FrameFault.{FrameFault}
use Rattle.zy_tuple.specs.declared.values.Slot.{Slot}
use Rattle.zy_tuple.specs.declared.values.Reply.{Reply}
use Rattle.zy_tuple.specs.declared.values.Reply.TheVariants.{Done, True}
use Rattle.zy_guard.specs.declared.values.Access.{Access}
use Rattle.zy_guard.specs.declared.values.Owned.{Owned}
use Rattle.zy_guard.specs.declared.values.Denial.{Denial}
use Rattle.zy_guard.specs.declared.values.Denial.TheVariants.{UnknownClient, OwnerNotReader, TakerNotReader, NotTaker}
use Rattle.zy_guard.specs.declared.values.GuardOp.{GuardOp}
use Rattle.zy_guard.specs.declared.values.GuardOp.TheVariants.{Out, Rdp, Inp, Cas}
use Rattle.zy_guard.specs.declared.values.GuardReply.TheVariants.{Plain, Denied}
use Rattle.zy_guard.specs.GuardedSpace.{has, is_within, sees, may_take, visible, IsOwned, IsGuardState, owned_by, oldest, inserted, owned_of, found, taken, unless_found, allowed_step, access_denial, op_denial, denial, unless_denied, guard_step, rule_of}
use Rattle.zy_guard.specs.Bytes.{op_in}
use Rattle.zy_guard.specs.Service.{is_bytes, answered, ran}
use Rattle.zy_guard.specs.Isolation.{ChangesByOne, access_in, Fails, IsFirstFailing}
use Rattle.zy_guard.specs.SpaceLaws.{split_seen}

-- ---- a reply tells of what its client sees

visible_again : (client : ℕ) (state : List Owned) → visible client (visible client state) ≡ visible client state
visible_again client [] = refl
visible_again client (owned ∷ others) =
    let again = visible_again client others in
    elim (cases_Bool (sees client owned)) [
      | inl seen ↦ rw seen (rw seen (ap (λ (state : List Owned). owned ∷ state) again))
      | inr hidden ↦ rw hidden again
    ]

-- an owner sees all of its own
own_visible : (client : ℕ) (state : List Owned) → AllByRecursion IsOwned state → owned_by client (visible client state) ≡ owned_by client state
own_visible client [] all = refl
own_visible client (owned ∷ others) all =
    let rest = own_visible client others all.1 in
    elim (cases_Bool (sees client owned)) [
      | inl seen ↦ rw seen (ap (λ (n : ℕ). cond (eqb owned.owner.0 client) 1 0 + n) rest)
      | inr hidden ↦ elim (eqb_tells owned.owner.0 client) [
        | inl same ↦ let seen : sees client owned ≡ true = subst (λ (c : ℕ). sees c owned ≡ true) same.1 all.0.reads in let both : true ≡ false = sym seen ∙ hidden in absurd (cc)
        | inr other ↦ let alone : owned_by client others ≡ 0 + owned_by client others = omega arith in rw (hidden, other.0) (rest ∙ alone)
      ]
    ]

inserted_seen : (owned : Owned) (reply : Reply) (state other : List Owned) → owned_by owned.owner.0 state ≡ owned_by owned.owner.0 other → (inserted owned reply state).reply ≡ (inserted owned reply other).reply
inserted_seen owned reply state other same =
    let test : ltb (owned_by owned.owner.0 state) 64 ≡ ltb (owned_by owned.owner.0 other) 64 = ap (λ (n : ℕ). ltb n 64) same in
    elim (cases_Bool (ltb (owned_by owned.owner.0 other) 64)) [
      | inl room ↦ rw (test ∙ room, room) refl
      | inr full ↦ rw (test ∙ full, full) refl
    ]

taken_seen : (client : ℕ) (template : List Slot) (match : Option Owned) (state other : List Owned) → (taken client template match state).reply ≡ (taken client template match other).reply
taken_seen client template None state other = refl
taken_seen client template (Some owned) state other =
    elim (cases_Bool (may_take client owned)) [ inl takes ↦ rw takes refl | inr lacks ↦ rw lacks refl ]

unless_found_seen : (match : Option Owned) (owned : Owned) (state other : List Owned) → owned_by owned.owner.0 state ≡ owned_by owned.owner.0 other
    → (unless_found match state (inserted owned True state)).reply ≡ (unless_found match other (inserted owned True other)).reply
unless_found_seen None owned state other same = inserted_seen owned True state other same
unless_found_seen (Some match) owned state other same = refl

-- two states in which a client sees the same
module _ (client : ℕ) (state other : List Owned) (same : visible client state ≡ visible client other) (count : owned_by client state ≡ owned_by client other) where
  allowed_same : (op : GuardOp) → (allowed_step client op state).reply ≡ (allowed_step client op other).reply
  allowed_same (Out access tuple) = inserted_seen (owned_of client access tuple) Done state other count
  allowed_same (Rdp template) = ap (λ (l : List Owned). Plain (found (oldest template l))) same
  allowed_same (Inp template) =
      taken_seen client template (oldest template (visible client state)) state other ∙ ap (λ (l : List Owned). (taken client template (oldest template l) other).reply) same
  allowed_same (Cas template access tuple) =
      unless_found_seen (oldest template (visible client state)) (owned_of client access tuple) state other count
      ∙ ap (λ (l : List Owned). (unless_found (oldest template l) other (inserted (owned_of client access tuple) True other)).reply) same

  denied_same : (op : GuardOp) (denied : Option Denial) → (unless_denied denied state (allowed_step client op state)).reply ≡ (unless_denied denied other (allowed_step client op other)).reply
  denied_same op None = allowed_same op
  denied_same op (Some why) = refl

  answered_same : (read : Result GuardOp FrameFault) → (answered client read state).reply ≡ (answered client read other).reply
  answered_same (Ok op) = denied_same op (denial client op)
  answered_same (Err fault) = refl

pub own : (client : ℕ) (bytes : List ℕ) (state other : List Owned) → IsGuardState state → IsGuardState other → visible client state ≡ visible client other
    → (ran client bytes state).reply ≡ (ran client bytes other).reply
unfolding ran
own client bytes state other is other_is same =
    let count : owned_by client state ≡ owned_by client other = sym (own_visible client state is.each) ∙ ap (owned_by client) same ∙ own_visible client other other_is.each in
    elim (cases_Bool (is_bytes bytes)) [
      | inl are ↦ rw are (answered_same client state other same count (op_in bytes))
      | inr not_bytes ↦ rw not_bytes refl
    ]

-- ---- what another one does

inserted_changes : (client : ℕ) (owned : Owned) (reply : Reply) (state : List Owned) → ChangesByOne client owned.owner.0 state (inserted owned reply state).state
inserted_changes client owned reply state =
    let both = filter-append (sees client) state (owned ∷ []) in
    elim (cases_Bool (ltb (owned_by owned.owner.0 state) 64)) [
      | inr full ↦ rw full (inl refl)
      | inl room ↦ rw room (elim (cases_Bool (sees client owned)) [
        | inl seen ↦
            let one : visible client (owned ∷ []) ≡ owned ∷ [] = rw seen refl in
            inr (inl (record { one = owned; reads = seen; by = refl; now = both ∙ ap (λ (l : List Owned). visible client state ++ l) one }))
        | inr hidden ↦
            let none : visible client (owned ∷ []) ≡ [] = rw hidden refl in
            inl (both ∙ ap (λ (l : List Owned). visible client state ++ l) none ∙ append-nil (visible client state))
      ])
    ]

visible_middle : (client : ℕ) (front : List Owned) (owned : Owned) (back : List Owned) → visible client (front ++ owned ∷ back) ≡ visible client front ++ visible client (owned ∷ back)
visible_middle client front owned back = filter-append (sees client) front (owned ∷ back)

removed_changes : (client other : ℕ) (template : List Slot) (state after : List Owned) (owned : Owned) → may_take other owned ≡ true → (front back : List Owned) → state ≡ front ++ owned ∷ back → after ≡ front ++ back
    → ChangesByOne client other state after
removed_changes client other template state after owned takes front back was is =
    let before : visible client state ≡ visible client front ++ visible client (owned ∷ back) = ap (visible client) was ∙ visible_middle client front owned back in
    let now : visible client after ≡ visible client front ++ visible client back = ap (visible client) is ∙ filter-append (sees client) front back in
    elim (cases_Bool (sees client owned)) [
      | inl seen ↦
          let one : visible client (owned ∷ back) ≡ owned ∷ visible client back = rw seen refl in
          inr (inr (record {
            earlier = visible client front;
            one = owned;
            later = visible client back;
            reads = seen;
            by = takes;
            was = before ∙ ap (λ (l : List Owned). visible client front ++ l) one;
            now = now;
          }))
      | inr hidden ↦
          let none : visible client (owned ∷ back) ≡ visible client back = rw hidden refl in
          inl (now ∙ sym (before ∙ ap (λ (l : List Owned). visible client front ++ l) none))
    ]

taken_changes : (client other : ℕ) (template : List Slot) (match : Option Owned) (state : List Owned) → oldest template (visible other state) ≡ match → ChangesByOne client other state (taken other template match state).state
taken_changes client other template None state is = inl refl
taken_changes client other template (Some owned) state is =
    let split = split_seen other template state owned is in
    elim (cases_Bool (may_take other owned)) [
      | inl takes ↦ rw takes (removed_changes client other template state _ owned takes split.front split.back split.before split.after)
      | inr lacks ↦ rw lacks (inl refl)
    ]

unless_found_changes : (client : ℕ) (match : Option Owned) (owned : Owned) (state : List Owned) → ChangesByOne client owned.owner.0 state (unless_found match state (inserted owned True state)).state
unless_found_changes client None owned state = inserted_changes client owned True state
unless_found_changes client (Some match) owned state = inl refl

allowed_changes : (client other : ℕ) (op : GuardOp) (state : List Owned) → ChangesByOne client other state (allowed_step other op state).state
allowed_changes client other (Out access tuple) state = inserted_changes client (owned_of other access tuple) Done state
allowed_changes client other (Rdp template) state = inl refl
allowed_changes client other (Inp template) state = taken_changes client other template (oldest template (visible other state)) state refl
allowed_changes client other (Cas template access tuple) state = unless_found_changes client (oldest template (visible other state)) (owned_of other access tuple) state

denied_changes : (client other : ℕ) (op : GuardOp) (state : List Owned) (denied : Option Denial) → ChangesByOne client other state (unless_denied denied state (allowed_step other op state)).state
denied_changes client other op state None = allowed_changes client other op state
denied_changes client other op state (Some why) = inl refl

answered_changes : (client other : ℕ) (read : Result GuardOp FrameFault) (state : List Owned) → ChangesByOne client other state (answered other read state).state
answered_changes client other (Ok op) state = denied_changes client other op state (denial other op)
answered_changes client other (Err fault) state = inl refl

pub others : (client other : ℕ) (bytes : List ℕ) (state : List Owned) → ChangesByOne client other state (ran other bytes state).state
unfolding ran
others client other bytes state =
    elim (cases_Bool (is_bytes bytes)) [
      | inl are ↦ rw are (answered_changes client other (op_in bytes) state)
      | inr not_bytes ↦ rw not_bytes (inl refl)
    ]

-- ---- denials

module _ (client : ℕ) (op : GuardOp) (state : List Owned) where
  before_first : (earlier : Denial) → rule_of earlier < 1 → Fails earlier client op state → ⊥
  before_first UnknownClient less fails = omega (arith, less)
  before_first OwnerNotReader less fails = omega (arith, less)
  before_first TakerNotReader less fails = omega (arith, less)
  before_first NotTaker less fails = omega (arith, less)

  before_second : client < 64 → (earlier : Denial) → rule_of earlier < 2 → Fails earlier client op state → ⊥
  before_second small UnknownClient less fails = omega (arith, small, fails)
  before_second small OwnerNotReader less fails = omega (arith, less)
  before_second small TakerNotReader less fails = omega (arith, less)
  before_second small NotTaker less fails = omega (arith, less)

  before_third : client < 64 → (access : Access) → access_in op ≡ Some access → has client access.readers.0 ≡ true → (earlier : Denial) → rule_of earlier < 3 → Fails earlier client op state → ⊥
  before_third small access is reads UnknownClient less fails = omega (arith, small, fails)
  before_third small access is reads OwnerNotReader less fails =
      let same : fails.0 ≡ access = same_Some fails.0 access (sym fails.1 ∙ is) in
      let both : true ≡ false = sym reads ∙ subst (λ (a : Access). has client a.readers.0 ≡ false) same fails.2 in
      absurd (cc)
  before_third small access is reads TakerNotReader less fails = omega (arith, less)
  before_third small access is reads NotTaker less fails = omega (arith, less)

  before_fourth : client < 64 → access_in op ≡ None → (earlier : Denial) → rule_of earlier < 4 → Fails earlier client op state → ⊥
  before_fourth small none UnknownClient less fails = omega (arith, small, fails)
  before_fourth small none OwnerNotReader less fails = let some : None ≡ Some fails.0 = sym none ∙ fails.1 in absurd (cc)
  before_fourth small none TakerNotReader less fails = let some : None ≡ Some fails.0 = sym none ∙ fails.1 in absurd (cc)
  before_fourth small none NotTaker less fails = omega (arith, less)

same_denial : (a b : Denial) → Denied a ≡ Denied b → a ≡ b
same_denial a b is = cc

not_plain : (reply : Reply) (why : Denial) → Plain reply ≡ Denied why → ⊥
not_plain reply why is = absurd (cc)

inserted_plain : (owned : Owned) (reply : Reply) (state : List Owned) (why : Denial) → (inserted owned reply state).reply ≡ Denied why → ⊥
inserted_plain owned reply state why is =
    elim (cases_Bool (ltb (owned_by owned.owner.0 state) 64)) [
      | inl room ↦ not_plain reply why (rw room at is)
      | inr full ↦ not_plain _ why (rw full at is)
    ]

unless_found_plain : (match : Option Owned) (owned : Owned) (state : List Owned) (why : Denial) → (unless_found match state (inserted owned True state)).reply ≡ Denied why → ⊥
unless_found_plain None owned state why is = inserted_plain owned True state why is
unless_found_plain (Some match) owned state why is = not_plain _ why is

-- an operation that puts a tuple in is denied by its sets alone
access_first : (client : ℕ) (op : GuardOp) (state : List Owned) (access : Access) (why : Denial) → client < 64 → access_in op ≡ Some access → access_denial client access ≡ Some why → IsFirstFailing why client op state
access_first client op state access why small is denied =
    elim (cases_Bool (has client access.readers.0)) [
      | inl reads ↦ elim (cases_Bool (is_within access.takers.0 access.readers.0)) [
        | inl within ↦ let none : None ≡ Some why = rw within at (rw reads at denied) in absurd (cc)
        | inr beyond ↦
            let third : Some TakerNotReader ≡ Some why = rw beyond at (rw reads at denied) in
            subst (λ (d : Denial). IsFirstFailing d client op state) (same_Some TakerNotReader why third)
            (record { fails = (access, is, beyond); others_hold = before_third client op state small access is reads })
      ]
      | inr hidden ↦
          let second : Some OwnerNotReader ≡ Some why = rw hidden at denied in
          subst (λ (d : Denial). IsFirstFailing d client op state) (same_Some OwnerNotReader why second)
          (record { fails = (access, is, hidden); others_hold = before_second client op state small })
    ]

taken_first : (client : ℕ) (template : List Slot) (match : Option Owned) (state : List Owned) (why : Denial) → client < 64 → oldest template (visible client state) ≡ match
    → (taken client template match state).reply ≡ Denied why → IsFirstFailing why client (Inp template) state
taken_first client template None state why small first is = absurd (not_plain _ why is)
taken_first client template (Some owned) state why small first is =
    elim (cases_Bool (may_take client owned)) [
      | inl takes ↦ absurd (not_plain _ why (rw takes at is))
      | inr lacks ↦
          let fourth : Denied NotTaker ≡ Denied why = rw lacks at is in
          subst (λ (d : Denial). IsFirstFailing d client (Inp template) state) (same_denial NotTaker why fourth)
          (record { fails = (owned, record { template = template; takes = refl; first = first }, lacks); others_hold = before_fourth client (Inp template) state small refl })
    ]

access_or_plain : (client : ℕ) (op : GuardOp) (state : List Owned) (access : Access) (why : Denial) (denied : Option Denial) → client < 64 → access_in op ≡ Some access → access_denial client access ≡ denied
    → ((allowed_step client op state).reply ≡ Denied why → ⊥) → (unless_denied denied state (allowed_step client op state)).reply ≡ Denied why → IsFirstFailing why client op state
access_or_plain client op state access why None small is none plain reply = absurd (plain reply)
access_or_plain client op state access why (Some other) small is denied plain reply =
    access_first client op state access why small is (denied ∙ ap (λ (d : Denial). Some d) (same_denial other why reply))

op_first : (client : ℕ) (op : GuardOp) (state : List Owned) (why : Denial) → client < 64 → (unless_denied (op_denial client op) state (allowed_step client op state)).reply ≡ Denied why → IsFirstFailing why client op state
op_first client (Out access tuple) state why small is =
    access_or_plain client (Out access tuple) state access why (access_denial client access) small refl refl (inserted_plain (owned_of client access tuple) Done state why) is
op_first client (Rdp template) state why small is = absurd (not_plain _ why is)
op_first client (Inp template) state why small is = taken_first client template (oldest template (visible client state)) state why small refl is
op_first client (Cas template access tuple) state why small is =
    access_or_plain client (Cas template access tuple) state access why (access_denial client access) small refl refl
    (unless_found_plain (oldest template (visible client state)) (owned_of client access tuple) state why) is

pub denied_first : (client : ℕ) (op : GuardOp) (state : List Owned) (why : Denial) → (guard_step client op state).reply ≡ Denied why → IsFirstFailing why client op state
denied_first client op state why is =
    elim (cases_Bool (ltb client 64)) [
      | inl small ↦ op_first client op state why (ltb-true client 64 small) (rw small at is)
      | inr great ↦
          let first : Denied UnknownClient ≡ Denied why = rw great at is in
          subst (λ (d : Denial). IsFirstFailing d client op state) (same_denial UnknownClient why first)
          (record { fails = ltb-false client 64 great; others_hold = before_first client op state })
    ]

-- a client that is one of the 64 is judged by its operation
known_small : (client : ℕ) → (64 ≤ client → ⊥) → ltb client 64 ≡ true
known_small client known =
    elim (cases_Bool (ltb client 64)) [ inl small ↦ small | inr great ↦ absurd (known (ltb-false client 64 great)) ]

access_denied : (client : ℕ) (op : GuardOp) (state : List Owned) (access : Access) (why : Denial) → client < 64 → access_in op ≡ Some access → access_denial client access ≡ Some why
    → (unless_denied (op_denial client op) state (allowed_step client op state)).reply ≡ Denied why
access_denied client (Out other tuple) state access why small is denied =
    let here : access_denial client other ≡ Some why = ap (access_denial client) (same_Some other access is) ∙ denied in
    ap (λ (d : Option Denial). (unless_denied d state (allowed_step client (Out other tuple) state)).reply) here
access_denied client (Rdp template) state access why small is denied = absurd (cc)
access_denied client (Inp template) state access why small is denied = absurd (cc)
access_denied client (Cas template other tuple) state access why small is denied =
    let here : access_denial client other ≡ Some why = ap (access_denial client) (same_Some other access is) ∙ denied in
    ap (λ (d : Option Denial). (unless_denied d state (allowed_step client (Cas template other tuple) state)).reply) here

reads_first : (client : ℕ) (access : Access) → (has client access.readers.0 ≡ false → ⊥) → has client access.readers.0 ≡ true
reads_first client access reads = elim (cases_Bool (has client access.readers.0)) [ inl is ↦ is | inr lacks ↦ absurd (reads lacks) ]

pub first_denied : (client : ℕ) (op : GuardOp) (state : List Owned) (why : Denial) → IsFirstFailing why client op state → (guard_step client op state).reply ≡ Denied why
first_denied client op state UnknownClient first = let great = le-ltb client 64 first.fails in rw great refl
first_denied client op state OwnerNotReader first =
    let small = known_small client (first.others_hold UnknownClient (omega arith)) in
    let denied : access_denial client first.fails.0 ≡ Some OwnerNotReader = rw first.fails.2 refl in
    rw small (access_denied client op state first.fails.0 OwnerNotReader (ltb-true client 64 small) first.fails.1 denied)
first_denied client op state TakerNotReader first =
    let small = known_small client (first.others_hold UnknownClient (omega arith)) in
    let reads = reads_first client first.fails.0 (λ lacks. first.others_hold OwnerNotReader (omega arith) (first.fails.0, first.fails.1, lacks)) in
    let denied : access_denial client first.fails.0 ≡ Some TakerNotReader = rw (reads, first.fails.2) refl in
    rw small (access_denied client op state first.fails.0 TakerNotReader (ltb-true client 64 small) first.fails.1 denied)
first_denied client op state NotTaker first =
    let small = known_small client (first.others_hold UnknownClient (omega arith)) in
    let to_take = first.fails.1 in
    let taken_so : (taken client to_take.template (oldest to_take.template (visible client state)) state).reply ≡ Denied NotTaker = rw to_take.first (rw first.fails.2 refl) in
    subst (λ (o : GuardOp). (guard_step client o state).reply ≡ Denied NotTaker) (sym to_take.takes) (rw small taken_so)
