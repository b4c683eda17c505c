-- The bytes of operations and of tuples with their owners: what is read was spelled so, and what is spelled so is read.
use Rattle.std.proofs.Common.{◌≡◌, ℕ, ◌<◌, Bool, true, false, eqb, ltb, cond, ◌&&◌, List, [], ◌++◌, length, Some, None, Result, Ok, refl, sym, ap, subst, ◌∙◌, arith}
use Rattle.std.specs.Int.{w8, w64}
use Rattle.std.proofs.lemmas.Bool.{and_parts, and_from, ltb-true, lt-ltb}
use Rattle.std.proofs.lemmas.List.{append-nil}
use Rattle.std.proofs.lemmas.Option.{same_Some}
use Rattle.zy_base.specs.declared.frame_fault.FrameFault.{FrameFault}
use Rattle.zy_base.specs.declared.frame_fault.FrameFault.TheVariants.{Range}
use Rattle.zy_wire.specs.Spelling.{Spelling, IsBytes, IsExact, word, word_at, pair, repeated, made, ended}
use Rattle.zy_wire.proofs.Parts.{IsBytes-after, bind_ok, bind_at, ended_ok, wide8, wide64, word-exact, repeated-exact, pair-exact, converted-exact, refined-exact, counted-exact}
use Rattle.zy_wire.proofs.Choices.{Takes, Takes-or, Takes-none, made_again}
use Rattle.zy_tuple.specs.declared.values.Field.{Field}
use Rattle.zy_tuple.specs.Bytes.{byte, slot, few_bytes, few_at, tuple_spelling}
use Rattle.zy_tuple.proofs.BytesLaws.{slot-exact, tuple-exact}
use Rattle.zy_guard.specs.declared.values.Access.{Access}
use Rattle.zy_guard.specs.declared.values.Owned.{Owned}
use Rattle.zy_guard.specs.declared.values.GuardOp.{GuardOp}
use Rattle.zy_guard.specs.declared.values.GuardOp.TheVariants.{Out, Rdp, Inp, Cas}
use Rattle.zy_guard.specs.GuardedSpace.{sees, is_within, IsGuardOp, IsOwned}
use Rattle.zy_guard.specs.Bytes.{access_of, sets_of, access_spelling, template_spelling, out_spelling, cas_spelling, out_of, cas_of, op_kind, op_fields, op_bytes, op_of_kind, op_at, op_in, owned_from, owned_parts, is_kept, owned_made, owned_fields, owned_bytes, owned_at, owned_spelling}

pub template-exact : IsExact template_spelling
unfolding few_at few_bytes
template-exact =
    let c = counted-exact w8 1 9 (repeated slot) length wide8 (omega arith) (repeated-exact slot slot-exact) (λ n xs fits. fits.0) in
    record {
      takes = λ bytes xs rest fits e. let t = c.takes bytes xs rest fits e in (t.0, ((t.1.0, omega (arith, t.1.1)), t.1.2.1));
      again = λ xs rest fits. c.again xs rest (fits.0.0, omega (arith, fits.0.1), (refl, fits.1));
    }

pub access-exact : IsExact access_spelling
access-exact = converted-exact access_of sets_of (pair (word w64) (word w64)) (pair-exact (word w64) (word w64) (word-exact w64 wide64) (word-exact w64 wide64)) (λ access. refl) (λ sets. refl)

pub out-exact : IsExact out_spelling
out-exact = pair-exact access_spelling tuple_spelling access-exact tuple-exact

pub cas-exact : IsExact cas_spelling
cas-exact = pair-exact template_spelling out_spelling template-exact out-exact

-- ---- operations

module _ (kind : ℕ) where
  or : {B : Type 0} (make : B → GuardOp) (S : Spelling B) → IsExact S → (k : ℕ) → ((y : B) → op_kind (make y) ≡ k) → ((y : B) → op_fields (make y) ≡ S.spell y) → ((y : B) → S.Fits y → IsGuardOp (make y)) → (other : List ℕ → Result (GuardOp × List ℕ) FrameFault) → Takes op_kind op_fields IsGuardOp kind other → Takes op_kind op_fields IsGuardOp kind (λ bytes. cond (eqb kind k) (made make S bytes) (other bytes))
  or make S exact k is_kind is_spelled is_fit other rest = Takes-or op_kind op_fields IsGuardOp make S exact k is_kind is_spelled is_fit kind other rest

  kind_takes : Takes op_kind op_fields IsGuardOp kind (op_of_kind kind)
  kind_takes =
      or out_of out_spelling out-exact 5 (λ parts. refl) (λ parts. refl) (λ parts fits. fits) _
      (or Rdp template_spelling template-exact 6 (λ template. refl) (λ template. refl) (λ template fits. fits) _
      (or Inp template_spelling template-exact 7 (λ template. refl) (λ template. refl) (λ template fits. fits) _
      (or cas_of cas_spelling cas-exact 8 (λ parts. refl) (λ parts. refl) (λ parts fits. (fits.0, fits.1.0, fits.1.1)) _
      (Takes-none op_kind op_fields IsGuardOp kind Range))))

pub op_takes : (bytes : List ℕ) (op : GuardOp) → IsBytes bytes → op_in bytes ≡ Ok op → IsGuardOp op × (bytes ≡ op_bytes op)
unfolding op_in op_at
op_takes bytes op fits e =
    let a = bind_ok (op_at bytes) (λ x. ended x.0 x.1) op e in
    let k = bind_ok (word_at w8 bytes) (λ kind. op_of_kind kind.0 kind.1) a.0 a.1 in
    let front = (word-exact w8 wide8).takes bytes k.0.0 k.0.1 fits k.1 in
    let t = kind_takes k.0.0 k.0.1 a.0.0 a.0.1 (IsBytes-after bytes (byte k.0.0) k.0.1 fits front.0) k.2 in
    let f = ended_ok a.0.0 a.0.1 op a.2 in
    let spelled : bytes ≡ op_bytes a.0.0 =
    front.0 ∙ ap (λ (n : ℕ). byte n ++ k.0.1) (sym t.0) ∙ ap (λ (rest : List ℕ). byte (op_kind a.0.0) ++ rest) (t.1 ∙ ap (λ (rest : List ℕ). op_fields a.0.0 ++ rest) f.1 ∙ append-nil (op_fields a.0.0)) in
    subst (λ (x : GuardOp). IsGuardOp x × (bytes ≡ op_bytes x)) f.0 (t.2, spelled)

fields_again : (op : GuardOp) (rest : List ℕ) → IsGuardOp op → op_of_kind (op_kind op) (op_fields op ++ rest) ≡ Ok (op, rest)
fields_again (Out access tuple) rest fits = made_again out_of out_spelling out-exact (access, tuple) rest fits
fields_again (Rdp template) rest fits = made_again Rdp template_spelling template-exact template rest fits
fields_again (Inp template) rest fits = made_again Inp template_spelling template-exact template rest fits
fields_again (Cas template access tuple) rest fits = made_again cas_of cas_spelling cas-exact (template, (access, tuple)) rest (fits.0, (fits.1, fits.2))

kind_small : (op : GuardOp) → op_kind op < 256
kind_small (Out access tuple) = omega arith
kind_small (Rdp template) = omega arith
kind_small (Inp template) = omega arith
kind_small (Cas template access tuple) = omega arith

pub op_again : (op : GuardOp) → IsGuardOp op → op_in (op_bytes op) ≡ Ok op
unfolding op_in op_at
op_again op fits =
    let fields : op_of_kind (op_kind op) (op_fields op) ≡ Ok (op, []) = subst (λ (rest : List ℕ). op_of_kind (op_kind op) rest ≡ Ok (op, [])) (append-nil (op_fields op)) (fields_again op [] fits) in
    let all : op_at (op_bytes op) ≡ Ok (op, []) =
    bind_at (word_at w8 (op_bytes op)) (λ kind. op_of_kind kind.0 kind.1) (op_kind op, op_fields op) ((word-exact w8 wide8).again (op_kind op) (op_fields op) (kind_small op)) ∙ fields in
    bind_at (op_at (op_bytes op)) (λ x. ended x.0 x.1) (op, []) all

-- ---- tuples with their owners

made_only : (b : Bool) (x y : Owned) → cond b (Some x) None ≡ Some y → (b ≡ true) × (x ≡ y)
made_only true x y e = (refl, same_Some x y e)
made_only false x y e = absurd (cc)

owned_valid : (owned : Owned) → IsOwned owned → owned_fields.Fits (owned_parts owned) × (owned_made (owned_parts owned) ≡ Some owned)
owned_valid owned is =
    let kept : is_kept owned ≡ true =
    and_from (ltb owned.owner.0 64) (sees owned.owner.0 owned && is_within owned.access.takers.0 owned.access.readers.0) (lt-ltb owned.owner.0 64 is.client)
    (and_from (sees owned.owner.0 owned) (is_within owned.access.takers.0 owned.access.readers.0) is.reads is.within) in
    ((omega (arith, is.client), (is.sets, is.fields)), rw kept refl)

owned_only : (parts : ℕ × (Access × List Field)) (owned : Owned) → owned_fields.Fits parts → owned_made parts ≡ Some owned → (owned_parts owned ≡ parts) × IsOwned owned
owned_only parts owned fits e =
    let made = made_only (is_kept (owned_from parts)) (owned_from parts) owned e in
    let a = and_parts (ltb parts.0 64) (sees parts.0 (owned_from parts) && is_within parts.1.0.takers.0 parts.1.0.readers.0) made.0 in
    let b = and_parts (sees parts.0 (owned_from parts)) (is_within parts.1.0.takers.0 parts.1.0.readers.0) a.1 in
    let is : IsOwned (owned_from parts) = record { client = ltb-true parts.0 64 a.0; sets = fits.1.0; reads = b.0; within = b.1; fields = fits.1.1 } in
    subst (λ (x : Owned). (owned_parts x ≡ parts) × IsOwned x) made.1 (refl, is)

pub owned-exact : IsExact owned_spelling
unfolding owned_at owned_bytes
owned-exact =
    let s = refined-exact owned_made owned_parts IsOwned owned_fields (pair-exact (word w8) out_spelling (word-exact w8 wide8) out-exact) owned_valid owned_only in
    record { takes = s.takes; again = s.again }
