-- The bytes of operations and replies: what is read was spelled so, and what is spelled so is read.
use Rattle.std.proofs.Common.{◌≡◌, ℕ, zero, suc, ℤ, ◌^◌, ◌<◌, Bool, true, false, cond, List, [], ◌∷◌, ◌++◌, length, Result, Ok, Err, Fits, FitsSigned, refl, sym, ap, subst, ◌∙◌, append_assoc, arith}
use Rattle.std.specs.Prelude.{◌&&◌}
use Rattle.std.specs.Int.{w8, w64, cast_signed, cast_unsigned}
use Rattle.std.specs.List.{flat_map, list_all, AllByRecursion}
use Rattle.std.proofs.lemmas.List.{append-nil}
use Rattle.std.proofs.lemmas.Bool.Decides.{nat_tests}
use Rattle.std.proofs.Math.Facts.{sfits_to_z, Fits-of_z}
use Rattle.std.proofs.lemmas.Int.{to_z-of_z, of_z-to_z}
use Rattle.zy_base.specs.declared.frame_fault.FrameFault.{FrameFault}
use Rattle.zy_base.specs.declared.frame_fault.FrameFault.TheVariants.{Range}
use Rattle.zy_wire.specs.Spelling.{Spelling, ◌>>=◌, IsBytes, IsExact, bytes_of, word_at, number_at, repeated_at, ended}
use Rattle.zy_wire.specs.Fields.{sized, bytes_at}
use Rattle.zy_wire.proofs.Parts.{IsBytes-after, bind_ok, bind_at, ok_is, wide8, wide64, word-exact, number-exact, repeated-exact}
use Rattle.zy_wire.proofs.Laws.{sized-exact}
use Rattle.zy_tuple.specs.declared.values.Field.{Field}
use Rattle.zy_tuple.specs.declared.values.Field.TheVariants.{Int, Text}
use Rattle.zy_tuple.specs.declared.values.Slot.{Slot}
use Rattle.zy_tuple.specs.declared.values.Slot.TheVariants.{Any, Is}
use Rattle.zy_tuple.specs.declared.values.Op.{Op}
use Rattle.zy_tuple.specs.declared.values.Op.TheVariants.{Out, Rdp, Inp, Cas}
use Rattle.zy_tuple.specs.declared.values.Reply.{Reply}
use Rattle.zy_tuple.specs.declared.values.Reply.TheVariants.{Done, Got, Nothing, True, False, Full, Bad}
use Rattle.zy_tuple.specs.Values.{is_printable, IsPrintable, IsField, IsSlot, IsFew, IsOp, IsReply}
use Rattle.zy_tuple.specs.Bytes.{byte, field_bytes, slot_bytes, few_bytes, tuple_bytes, template_bytes, op_bytes, reply_bytes, printable_text, field_of_kind, field_at, slot_of_kind, slot_at, field, slot, few_at, tuple_spelling, op_of_kind, op_at, reply_of_kind, reply_at, op_in, reply_in}

-- ---- printable bytes

printable_one : (c : ℕ) → is_printable c ≡ true → IsPrintable c
printable_one c e = grind (arith, nat_tests)

one_printable : (c : ℕ) → IsPrintable c → is_printable c ≡ true
one_printable c fits = grind (arith, nat_tests)

split : (a b : Bool) → (a && b) ≡ true → (a ≡ true) × (b ≡ true)
split true b e = (refl, e)
split false b e = absurd cc

printable_all : (text : List ℕ) → list_all is_printable text ≡ true → AllByRecursion IsPrintable text
printable_all [] e = tt
printable_all (c ∷ text) e = let s = split (is_printable c) (list_all is_printable text) e in (printable_one c s.0, printable_all text s.1)

all_printable : (text : List ℕ) → AllByRecursion IsPrintable text → list_all is_printable text ≡ true
all_printable [] fits = refl
all_printable (c ∷ text) fits = rw (one_printable c fits.0, all_printable text fits.1) refl

chosen_ok : {A : Type 0} (b : Bool) (fault : FrameFault) (x y : A) → cond b (Ok x) (Err fault) ≡ Ok y → (b ≡ true) × (x ≡ y)
chosen_ok true fault x y e = (refl, ok_is x y e)
chosen_ok false fault x y e = absurd cc

-- ---- fields

signed_fits : (n : ℕ) → n < 2 ^ 64 → FitsSigned w64 (cast_signed w64 n)
signed_fits n lt = let fits : Fits w64 n = omega arith in sfits_to_z {w = w64} {n = n} fits

unsigned_fits : (n : ℤ) → FitsSigned w64 n → cast_unsigned w64 n < 2 ^ 64
unsigned_fits n fits = omega (arith, Fits-of_z {w = w64} {z = n} fits)

text_exact : IsExact (sized w8 64)
text_exact = sized-exact w8 64 wide8 (omega arith)

field_of_kind_takes : (kind : ℕ) (bytes : List ℕ) (x : Field) (rest : List ℕ) → IsBytes bytes → field_of_kind kind bytes ≡ Ok (x, rest) → (byte kind ++ bytes ≡ field_bytes x ++ rest) × IsField x
unfolding printable_text
field_of_kind_takes zero bytes x rest fits e = absurd cc
field_of_kind_takes (suc zero) bytes x rest fits e =
    let a = bind_ok (word_at w64 bytes) (λ n. Ok (Int (cast_signed w64 n.0), n.1)) (x, rest) e in
    let t = (word-exact w64 wide64).takes bytes a.0.0 a.0.1 fits a.1 in
    let made : Field × List ℕ = (Int (cast_signed w64 a.0.0), a.0.1) in
    let same : cast_unsigned w64 (cast_signed w64 a.0.0) ≡ a.0.0 = of_z-to_z w64 a.0.0 t.1 in
    let parts : byte 1 ++ bytes ≡ (byte 1 ++ bytes_of w64 (cast_unsigned w64 (cast_signed w64 a.0.0))) ++ a.0.1 =
    ap (λ (l : List ℕ). byte 1 ++ l) (t.0 ∙ ap (λ (n : ℕ). bytes_of w64 n ++ a.0.1) (sym same)) ∙ sym (append_assoc (byte 1) (bytes_of w64 (cast_unsigned w64 (cast_signed w64 a.0.0))) a.0.1) in
    subst (λ (y : Field × List ℕ). (byte 1 ++ bytes ≡ field_bytes y.0 ++ y.1) × IsField y.0) (ok_is made (x, rest) a.2) (parts, signed_fits a.0.0 t.1)
field_of_kind_takes (suc (suc zero)) bytes x rest fits e =
    let a = bind_ok (bytes_at w8 64 bytes) (λ text. printable_text text.0 text.1) (x, rest) e in
    let t = text_exact.takes bytes a.0.0 a.0.1 fits a.1 in
    let made : Field × List ℕ = (Text a.0.0, a.0.1) in
    let s = chosen_ok (list_all is_printable a.0.0) Range made (x, rest) a.2 in
    let parts : byte 2 ++ bytes ≡ (byte 2 ++ (byte (length a.0.0) ++ a.0.0)) ++ a.0.1 = ap (λ (l : List ℕ). byte 2 ++ l) t.0 ∙ sym (append_assoc (byte 2) (byte (length a.0.0) ++ a.0.0) a.0.1) in
    subst (λ (y : Field × List ℕ). (byte 2 ++ bytes ≡ field_bytes y.0 ++ y.1) × IsField y.0) s.1 (parts, (t.1, printable_all a.0.0 s.0))
field_of_kind_takes (suc (suc (suc n))) bytes x rest fits e = absurd cc

-- a kind's byte, and then what it says
kind_takes : {A : Type 0} (of_kind : ℕ → List ℕ → Result (A × List ℕ) FrameFault) (spell : A → List ℕ) (Fits : A → Type 0) → ((kind : ℕ) (bytes : List ℕ) (x : A) (rest : List ℕ) → IsBytes bytes → of_kind kind bytes ≡ Ok (x, rest) → (byte kind ++ bytes ≡ spell x ++ rest) × Fits x)
    → (bytes : List ℕ) (x : A) (rest : List ℕ) → IsBytes bytes → (word_at w8 bytes >>= λ kind. of_kind kind.0 kind.1) ≡ Ok (x, rest) → (bytes ≡ spell x ++ rest) × Fits x
kind_takes of_kind spell Fits takes bytes x rest fits e =
    let a = bind_ok (word_at w8 bytes) (λ kind. of_kind kind.0 kind.1) (x, rest) e in
    let k = (word-exact w8 wide8).takes bytes a.0.0 a.0.1 fits a.1 in
    let t = takes a.0.0 a.0.1 x rest (IsBytes-after bytes (byte a.0.0) a.0.1 fits k.0) a.2 in
    (k.0 ∙ t.0, t.1)

-- a kind's byte is read again
kind_again : {A : Type 0} (of_kind : ℕ → List ℕ → Result (A × List ℕ) FrameFault) (kind : ℕ) (bytes : List ℕ) → kind < 256 → (word_at w8 (byte kind ++ bytes) >>= λ k. of_kind k.0 k.1) ≡ of_kind kind bytes
kind_again of_kind kind bytes small = bind_at (word_at w8 (byte kind ++ bytes)) (λ k. of_kind k.0 k.1) (kind, bytes) ((word-exact w8 wide8).again kind bytes small)

int_again : (n : ℤ) (rest : List ℕ) → FitsSigned w64 n → field_of_kind 1 (bytes_of w64 (cast_unsigned w64 n) ++ rest) ≡ Ok (Int n, rest)
int_again n rest fits =
    bind_at (word_at w64 (bytes_of w64 (cast_unsigned w64 n) ++ rest)) (λ m. Ok (Int (cast_signed w64 m.0), m.1)) (cast_unsigned w64 n, rest) ((word-exact w64 wide64).again (cast_unsigned w64 n) rest (unsigned_fits n fits))
    ∙ ap (λ (z : ℤ). Ok (Int z, rest)) (to_z-of_z w64 n fits)

text_again : (text rest : List ℕ) → IsField (Text text) → field_of_kind 2 ((byte (length text) ++ text) ++ rest) ≡ Ok (Text text, rest)
unfolding printable_text
text_again text rest fits =
    bind_at (bytes_at w8 64 ((byte (length text) ++ text) ++ rest)) (λ t. printable_text t.0 t.1) (text, rest) (text_exact.again text rest fits.0) ∙ rw (all_printable text fits.1) refl

field_again : (x : Field) (rest : List ℕ) → IsField x → field_at (field_bytes x ++ rest) ≡ Ok (x, rest)
unfolding field_at
field_again (Int n) rest fits =
    ap field_at (append_assoc (byte 1) (bytes_of w64 (cast_unsigned w64 n)) rest) ∙ kind_again field_of_kind 1 (bytes_of w64 (cast_unsigned w64 n) ++ rest) (omega arith) ∙ int_again n rest fits
field_again (Text text) rest fits =
    ap field_at (append_assoc (byte 2) (byte (length text) ++ text) rest) ∙ kind_again field_of_kind 2 ((byte (length text) ++ text) ++ rest) (omega arith) ∙ text_again text rest fits

pub field-exact : IsExact field
unfolding field_at
field-exact = record { takes = kind_takes field_of_kind field_bytes IsField field_of_kind_takes; again = field_again }

-- ---- slots

slot_of_kind_takes : (kind : ℕ) (bytes : List ℕ) (x : Slot) (rest : List ℕ) → IsBytes bytes → slot_of_kind kind bytes ≡ Ok (x, rest) → (byte kind ++ bytes ≡ slot_bytes x ++ rest) × IsSlot x
slot_of_kind_takes zero bytes x rest fits e =
    let made : Slot × List ℕ = (Any, bytes) in
    subst (λ (y : Slot × List ℕ). (byte 0 ++ bytes ≡ slot_bytes y.0 ++ y.1) × IsSlot y.0) (ok_is made (x, rest) e) (refl, tt)
slot_of_kind_takes (suc n) bytes x rest fits e =
    let a = bind_ok (field_of_kind (suc n) bytes) (λ f. Ok (Is f.0, f.1)) (x, rest) e in
    let made : Slot × List ℕ = (Is a.0.0, a.0.1) in
    subst (λ (y : Slot × List ℕ). (byte (suc n) ++ bytes ≡ slot_bytes y.0 ++ y.1) × IsSlot y.0) (ok_is made (x, rest) a.2) (field_of_kind_takes (suc n) bytes a.0.0 a.0.1 fits a.1)

wanted_again : (n : ℕ) (bytes : List ℕ) (x : Field) (rest : List ℕ) → field_of_kind (suc n) bytes ≡ Ok (x, rest) → slot_of_kind (suc n) bytes ≡ Ok (Is x, rest)
wanted_again n bytes x rest e = bind_at (field_of_kind (suc n) bytes) (λ f. Ok (Is f.0, f.1)) (x, rest) e

slot_again : (x : Slot) (rest : List ℕ) → IsSlot x → slot_at (slot_bytes x ++ rest) ≡ Ok (x, rest)
unfolding slot_at
slot_again Any rest fits = kind_again slot_of_kind 0 rest (omega arith)
slot_again (Is (Int n)) rest fits =
    ap slot_at (append_assoc (byte 1) (bytes_of w64 (cast_unsigned w64 n)) rest) ∙ kind_again slot_of_kind 1 (bytes_of w64 (cast_unsigned w64 n) ++ rest) (omega arith) ∙ wanted_again 0 (bytes_of w64 (cast_unsigned w64 n) ++ rest) (Int n) rest (int_again n rest fits)
slot_again (Is (Text text)) rest fits =
    ap slot_at (append_assoc (byte 2) (byte (length text) ++ text) rest) ∙ kind_again slot_of_kind 2 ((byte (length text) ++ text) ++ rest) (omega arith) ∙ wanted_again 1 ((byte (length text) ++ text) ++ rest) (Text text) rest (text_again text rest fits)

pub slot-exact : IsExact slot
unfolding slot_at
slot-exact = record { takes = kind_takes slot_of_kind slot_bytes IsSlot slot_of_kind_takes; again = slot_again }

-- ---- one to eight of them

module _ {A : Type 0} (S : Spelling A) (s : IsExact S) where
  few_takes : (bytes : List ℕ) (xs : List A) (rest : List ℕ) → IsBytes bytes → few_at S bytes ≡ Ok (xs, rest) → (bytes ≡ few_bytes S.spell xs ++ rest) × (IsFew xs × AllByRecursion S.Fits xs)
  unfolding few_at few_bytes
  few_takes bytes xs rest fits e =
      let a = bind_ok (number_at w8 1 9 bytes) (λ n. repeated_at S n.0 n.1) (xs, rest) e in
      let n = (number-exact w8 1 9 wide8 (omega arith)).takes bytes a.0.0 a.0.1 fits a.1 in
      let r = (repeated-exact S s a.0.0).takes a.0.1 xs rest (IsBytes-after bytes (byte a.0.0) a.0.1 fits n.0) a.2 in
      (n.0 ∙ ap (λ (l : List ℕ). byte a.0.0 ++ l) r.0 ∙ ap (λ (k : ℕ). byte k ++ (flat_map S.spell xs ++ rest)) (sym r.1.0) ∙ sym (append_assoc (byte (length xs)) (flat_map S.spell xs) rest), ((omega (arith, r.1.0, n.1.0), omega (arith, r.1.0, n.1.1)), r.1.1))

  few_again : (xs : List A) (rest : List ℕ) → IsFew xs × AllByRecursion S.Fits xs → few_at S (few_bytes S.spell xs ++ rest) ≡ Ok (xs, rest)
  unfolding few_at few_bytes
  few_again xs rest fits =
      ap (few_at S) (append_assoc (byte (length xs)) (flat_map S.spell xs) rest)
      ∙ bind_at (number_at w8 1 9 (byte (length xs) ++ (flat_map S.spell xs ++ rest))) (λ n. repeated_at S n.0 n.1) (length xs, flat_map S.spell xs ++ rest) ((number-exact w8 1 9 wide8 (omega arith)).again (length xs) (flat_map S.spell xs ++ rest) (fits.0.0, omega (arith, fits.0.1)))
      ∙ (repeated-exact S s (length xs)).again xs rest (refl, fits.1)

pub tuple-exact : IsExact tuple_spelling
tuple-exact = record { takes = few_takes field field-exact; again = few_again field field-exact }

-- ---- operations

op_of_kind_takes : (kind : ℕ) (bytes : List ℕ) (x : Op) (rest : List ℕ) → IsBytes bytes → op_of_kind kind bytes ≡ Ok (x, rest) → (byte kind ++ bytes ≡ op_bytes x ++ rest) × IsOp x
op_of_kind_takes zero bytes x rest fits e = absurd cc
op_of_kind_takes (suc zero) bytes x rest fits e =
    let a = bind_ok (few_at field bytes) (λ t. Ok (Out t.0, t.1)) (x, rest) e in
    let t = few_takes field field-exact bytes a.0.0 a.0.1 fits a.1 in
    let made : Op × List ℕ = (Out a.0.0, a.0.1) in
    subst (λ (y : Op × List ℕ). (byte 1 ++ bytes ≡ op_bytes y.0 ++ y.1) × IsOp y.0) (ok_is made (x, rest) a.2) (ap (λ (l : List ℕ). byte 1 ++ l) t.0 ∙ sym (append_assoc (byte 1) (tuple_bytes a.0.0) a.0.1), t.1)
op_of_kind_takes (suc (suc zero)) bytes x rest fits e =
    let a = bind_ok (few_at slot bytes) (λ s. Ok (Rdp s.0, s.1)) (x, rest) e in
    let t = few_takes slot slot-exact bytes a.0.0 a.0.1 fits a.1 in
    let made : Op × List ℕ = (Rdp a.0.0, a.0.1) in
    subst (λ (y : Op × List ℕ). (byte 2 ++ bytes ≡ op_bytes y.0 ++ y.1) × IsOp y.0) (ok_is made (x, rest) a.2) (ap (λ (l : List ℕ). byte 2 ++ l) t.0 ∙ sym (append_assoc (byte 2) (template_bytes a.0.0) a.0.1), t.1)
op_of_kind_takes (suc (suc (suc zero))) bytes x rest fits e =
    let a = bind_ok (few_at slot bytes) (λ s. Ok (Inp s.0, s.1)) (x, rest) e in
    let t = few_takes slot slot-exact bytes a.0.0 a.0.1 fits a.1 in
    let made : Op × List ℕ = (Inp a.0.0, a.0.1) in
    subst (λ (y : Op × List ℕ). (byte 3 ++ bytes ≡ op_bytes y.0 ++ y.1) × IsOp y.0) (ok_is made (x, rest) a.2) (ap (λ (l : List ℕ). byte 3 ++ l) t.0 ∙ sym (append_assoc (byte 3) (template_bytes a.0.0) a.0.1), t.1)
op_of_kind_takes (suc (suc (suc (suc zero)))) bytes x rest fits e =
    let a = bind_ok (few_at slot bytes) (λ s. few_at field s.1 >>= λ t. Ok (Cas s.0 t.0, t.1)) (x, rest) e in
    let b = bind_ok (few_at field a.0.1) (λ t. Ok (Cas a.0.0 t.0, t.1)) (x, rest) a.2 in
    let t = few_takes slot slot-exact bytes a.0.0 a.0.1 fits a.1 in
    let u = few_takes field field-exact a.0.1 b.0.0 b.0.1 (IsBytes-after bytes (template_bytes a.0.0) a.0.1 fits t.0) b.1 in
    let made : Op × List ℕ = (Cas a.0.0 b.0.0, b.0.1) in
    let parts : byte 4 ++ bytes ≡ (byte 4 ++ (template_bytes a.0.0 ++ tuple_bytes b.0.0)) ++ b.0.1 =
    ap (λ (l : List ℕ). byte 4 ++ l) (t.0 ∙ ap (λ (l : List ℕ). template_bytes a.0.0 ++ l) u.0 ∙ sym (append_assoc (template_bytes a.0.0) (tuple_bytes b.0.0) b.0.1)) ∙ sym (append_assoc (byte 4) (template_bytes a.0.0 ++ tuple_bytes b.0.0) b.0.1) in
    subst (λ (y : Op × List ℕ). (byte 4 ++ bytes ≡ op_bytes y.0 ++ y.1) × IsOp y.0) (ok_is made (x, rest) b.2) (parts, (t.1, u.1))
op_of_kind_takes (suc (suc (suc (suc (suc n))))) bytes x rest fits e = absurd cc

ended_takes : {A : Type 0} (x y : A) (rest : List ℕ) → ended x rest ≡ Ok y → (rest ≡ []) × (x ≡ y)
ended_takes x y [] e = (refl, ok_is x y e)
ended_takes x y (c ∷ rest) e = absurd cc

pub op_takes : (bytes : List ℕ) (op : Op) → IsBytes bytes → op_in bytes ≡ Ok op → IsOp op × (bytes ≡ op_bytes op)
unfolding op_in op_at
op_takes bytes op fits e =
    let a = bind_ok (op_at bytes) (λ x. ended x.0 x.1) op e in
    let t = kind_takes op_of_kind op_bytes IsOp op_of_kind_takes bytes a.0.0 a.0.1 fits a.1 in
    let f = ended_takes a.0.0 op a.0.1 a.2 in
    subst (λ (o : Op). IsOp o × (bytes ≡ op_bytes o)) f.1 (t.1, t.0 ∙ ap (λ (r : List ℕ). op_bytes a.0.0 ++ r) f.0 ∙ append-nil (op_bytes a.0.0))

-- a list at the end of the bytes
few_ends : {A : Type 0} (S : Spelling A) → IsExact S → (xs : List A) → IsFew xs × AllByRecursion S.Fits xs → few_at S (few_bytes S.spell xs) ≡ Ok (xs, [])
few_ends S s xs fits = ap (few_at S) (sym (append-nil (few_bytes S.spell xs))) ∙ few_again S s xs [] fits

op_of_kind_again : (op : Op) → IsOp op → op_at (op_bytes op) ≡ Ok (op, [])
unfolding op_at
op_of_kind_again (Out t) fits = kind_again op_of_kind 1 (tuple_bytes t) (omega arith) ∙ bind_at (few_at field (tuple_bytes t)) (λ x. Ok (Out x.0, x.1)) (t, []) (few_ends field field-exact t fits)
op_of_kind_again (Rdp s) fits = kind_again op_of_kind 2 (template_bytes s) (omega arith) ∙ bind_at (few_at slot (template_bytes s)) (λ x. Ok (Rdp x.0, x.1)) (s, []) (few_ends slot slot-exact s fits)
op_of_kind_again (Inp s) fits = kind_again op_of_kind 3 (template_bytes s) (omega arith) ∙ bind_at (few_at slot (template_bytes s)) (λ x. Ok (Inp x.0, x.1)) (s, []) (few_ends slot slot-exact s fits)
op_of_kind_again (Cas s t) fits =
    kind_again op_of_kind 4 (template_bytes s ++ tuple_bytes t) (omega arith)
    ∙ bind_at (few_at slot (template_bytes s ++ tuple_bytes t)) (λ x. few_at field x.1 >>= λ y. Ok (Cas x.0 y.0, y.1)) (s, tuple_bytes t) (few_again slot slot-exact s (tuple_bytes t) fits.0)
    ∙ bind_at (few_at field (tuple_bytes t)) (λ y. Ok (Cas s y.0, y.1)) (t, []) (few_ends field field-exact t fits.1)

pub op_again : (op : Op) → IsOp op → op_in (op_bytes op) ≡ Ok op
unfolding op_in
op_again op fits = bind_at (op_at (op_bytes op)) (λ x. ended x.0 x.1) (op, []) (op_of_kind_again op fits)

-- ---- replies

plain_takes : (reply made : Reply) (bytes rest : List ℕ) (kind : ℕ) → reply_bytes made ≡ byte kind → IsReply made → ◌≡◌ {A = Result (Reply × List ℕ) FrameFault} (Ok (made, bytes)) (Ok (reply, rest)) → (byte kind ++ bytes ≡ reply_bytes reply ++ rest) × IsReply reply
plain_takes reply made bytes rest kind spelled fits e =
    let x : Reply × List ℕ = (made, bytes) in
    subst (λ (y : Reply × List ℕ). (byte kind ++ bytes ≡ reply_bytes y.0 ++ y.1) × IsReply y.0) (ok_is x (reply, rest) e) (ap (λ (k : List ℕ). k ++ bytes) (sym spelled), fits)

reply_of_kind_takes : (kind : ℕ) (bytes : List ℕ) (x : Reply) (rest : List ℕ) → IsBytes bytes → reply_of_kind kind bytes ≡ Ok (x, rest) → (byte kind ++ bytes ≡ reply_bytes x ++ rest) × IsReply x
reply_of_kind_takes zero bytes x rest fits e = plain_takes x Done bytes rest 0 refl tt e
reply_of_kind_takes (suc zero) bytes x rest fits e =
    let a = bind_ok (few_at field bytes) (λ t. Ok (Got t.0, t.1)) (x, rest) e in
    let t = few_takes field field-exact bytes a.0.0 a.0.1 fits a.1 in
    let made : Reply × List ℕ = (Got a.0.0, a.0.1) in
    subst (λ (y : Reply × List ℕ). (byte 1 ++ bytes ≡ reply_bytes y.0 ++ y.1) × IsReply y.0) (ok_is made (x, rest) a.2) (ap (λ (l : List ℕ). byte 1 ++ l) t.0 ∙ sym (append_assoc (byte 1) (tuple_bytes a.0.0) a.0.1), t.1)
reply_of_kind_takes (suc (suc zero)) bytes x rest fits e = plain_takes x Nothing bytes rest 2 refl tt e
reply_of_kind_takes (suc (suc (suc zero))) bytes x rest fits e = plain_takes x True bytes rest 3 refl tt e
reply_of_kind_takes (suc (suc (suc (suc zero)))) bytes x rest fits e = plain_takes x False bytes rest 4 refl tt e
reply_of_kind_takes (suc (suc (suc (suc (suc zero))))) bytes x rest fits e = plain_takes x Full bytes rest 5 refl tt e
reply_of_kind_takes (suc (suc (suc (suc (suc (suc zero)))))) bytes x rest fits e = plain_takes x Bad bytes rest 6 refl tt e
reply_of_kind_takes (suc (suc (suc (suc (suc (suc (suc n))))))) bytes x rest fits e = absurd cc

pub reply_takes : (bytes : List ℕ) (reply : Reply) → IsBytes bytes → reply_in bytes ≡ Ok reply → IsReply reply × (bytes ≡ reply_bytes reply)
unfolding reply_in reply_at
reply_takes bytes reply fits e =
    let a = bind_ok (reply_at bytes) (λ x. ended x.0 x.1) reply e in
    let t = kind_takes reply_of_kind reply_bytes IsReply reply_of_kind_takes bytes a.0.0 a.0.1 fits a.1 in
    let f = ended_takes a.0.0 reply a.0.1 a.2 in
    subst (λ (r : Reply). IsReply r × (bytes ≡ reply_bytes r)) f.1 (t.1, t.0 ∙ ap (λ (r : List ℕ). reply_bytes a.0.0 ++ r) f.0 ∙ append-nil (reply_bytes a.0.0))

-- a kind without further bytes
byte_alone : (kind : ℕ) → kind < 256 → reply_at (byte kind) ≡ reply_of_kind kind []
unfolding reply_at
byte_alone kind small = ap reply_at (sym (append-nil (byte kind))) ∙ kind_again reply_of_kind kind [] small

reply_at_again : (reply : Reply) → IsReply reply → reply_at (reply_bytes reply) ≡ Ok (reply, [])
unfolding reply_at
reply_at_again Done fits = byte_alone 0 (omega arith)
reply_at_again (Got t) fits = kind_again reply_of_kind 1 (tuple_bytes t) (omega arith) ∙ bind_at (few_at field (tuple_bytes t)) (λ x. Ok (Got x.0, x.1)) (t, []) (few_ends field field-exact t fits)
reply_at_again Nothing fits = byte_alone 2 (omega arith)
reply_at_again True fits = byte_alone 3 (omega arith)
reply_at_again False fits = byte_alone 4 (omega arith)
reply_at_again Full fits = byte_alone 5 (omega arith)
reply_at_again Bad fits = byte_alone 6 (omega arith)

pub reply_again : (reply : Reply) → IsReply reply → reply_in (reply_bytes reply) ≡ Ok reply
unfolding reply_in
reply_again reply fits = bind_at (reply_at (reply_bytes reply)) (λ x. ended x.0 x.1) (reply, []) (reply_at_again reply fits)
