-- Made schedules: one ask more, and what they say can be said.
use Rattle.std.proofs.Common.{◌≡◌, ℕ, zero, suc, ◌+◌, ◌%◌, ◌/◌, ◌^◌, ◌<◌, ◌≤◌, ◌==◌, Bool, true, false, cond, List, [], ◌∷◌, ◌++◌, length, FitsSigned, pos, w64, rules, refl, sym, ap, ◌∙◌, append_assoc, append-nil, arith}
use Rattle.std.specs.Prelude.{All, codes}
use Rattle.std.specs.List.{AllByRecursion, flat_map, range_with_len}
use Rattle.std.proofs.lemmas.List.Elements.{All-append, All-cons, All-nil}
use Rattle.zy_schedule.specs.Making.{any_numbered, drawn, lines_of_ask, made_lines, next_number, numbered, op_of}
use Rattle.zy_schedule.specs.Texts.{IsSaid}
use Rattle.zy_schedule.specs.declared.line.Line.{Line}
use Rattle.zy_schedule.specs.declared.line.Line.TheVariants.{Ask, Flow}
use Rattle.zy_tuple.specs.declared.values.Op.{Op}
use Rattle.zy_tuple.specs.declared.values.Op.TheVariants.{Cas, Inp, Rdp}
use Rattle.zy_tuple.specs.Values.{IsOp, IsPrintable, IsTemplate, IsTuple}

-- ---- one more

from_more : {A : Type 0} (lines : ℕ → List A) (a n : ℕ) → flat_map lines (range_with_len a (suc n)) ≡ flat_map lines (range_with_len a n) ++ lines (a + n)
from_more lines a zero = let same : a + 0 ≡ a = omega arith in rw same (append-nil (lines a))
from_more lines a (suc n) =
    let same : a + 1 + n ≡ a + suc n = omega arith in
    ap (λ l. lines a ++ l) (from_more lines (a + 1) n ∙ ap (λ m. flat_map lines (range_with_len (a + 1) n) ++ lines m) same)
    ∙ sym (append_assoc (lines a) (flat_map lines (range_with_len (a + 1) n)) (lines (a + suc n)))

-- what stands for each number, with one number more
pub range_more : {A : Type 0} (lines : ℕ → List A) (n : ℕ) → flat_map lines (range_with_len 0 (n + 1)) ≡ flat_map lines (range_with_len 0 n) ++ lines n
range_more lines n =
    let more : n + 1 ≡ suc n = omega arith in
    let number : 0 + n ≡ n = omega arith in
    ap (λ m. flat_map lines (range_with_len 0 m)) more ∙ from_more lines 0 n ∙ ap (λ m. flat_map lines (range_with_len 0 n) ++ lines m) number

pub drawn_start : (number : ℕ) → number % 2 ^ 31 ≡ drawn number 0
unfolding drawn
drawn_start number = refl

pub drawn_next : (number n : ℕ) → next_number (drawn number n) ≡ drawn number (n + 1)
unfolding drawn
drawn_next number n = let more : suc n ≡ n + 1 = omega arith in ap (drawn number) more

pub made_next : (number n : ℕ) → made_lines number n ++ lines_of_ask (drawn number (n + 1)) n ≡ made_lines number (n + 1)
made_next number n = sym (range_more (λ m. lines_of_ask (drawn number (m + 1)) m) n)

-- ---- what is said

job_printable : AllByRecursion IsPrintable (codes "job")
job_printable = search rules

lock_printable : AllByRecursion IsPrintable (codes "lock")
lock_printable = search rules

numbered_said : (name : List ℕ) (n : ℕ) → length name ≤ 64 → AllByRecursion IsPrintable name → n < 2 ^ 32 → IsTuple (numbered name n)
numbered_said name n short printable below =
    let fits : FitsSigned w64 (pos n) = omega (arith, below) in
    ((omega arith, omega arith), ((short, printable), (fits, tt)))

any_said : (name : List ℕ) → length name ≤ 64 → AllByRecursion IsPrintable name → IsTemplate (any_numbered name)
any_said name short printable = ((omega arith, omega arith), ((short, printable), (tt, tt)))

either_said : (test : Bool) (a b : Op) → IsOp a → IsOp b → IsOp (cond test a b)
either_said true a b first second = first
either_said false a b first second = second

op_said : (kind n : ℕ) → n < 2 ^ 32 → IsOp (op_of kind n)
op_said kind n below =
    let job = any_said (codes "job") (omega arith) job_printable in
    let lock : IsOp (Cas (any_numbered (codes "lock")) (numbered (codes "lock") n)) =
    (any_said (codes "lock") (omega arith) lock_printable, numbered_said (codes "lock") n (omega arith) lock_printable below) in
    either_said (kind == 0) _ _ (numbered_said (codes "job") n (omega arith) job_printable below)
    (either_said (kind == 1) (Rdp (any_numbered (codes "job"))) _ job
    (either_said (kind == 2) (Inp (any_numbered (codes "job"))) (Cas (any_numbered (codes "lock")) (numbered (codes "lock") n)) job lock))

pub ask_said : (draw n : ℕ) (lines : List Line) → n < 2 ^ 32 → All IsSaid lines → All IsSaid (lines ++ lines_of_ask draw n)
ask_said draw n lines below all =
    let ask : IsSaid (Ask (record { 0 = n % 4 }) (op_of (draw / 65536 % 4) n)) = ([], (omega (arith, below), op_said (draw / 65536 % 4) n below)) in
    let flow : IsSaid (Flow 1000) = ([], omega arith) in
    All-append IsSaid lines (lines_of_ask draw n) all
    (All-cons IsSaid (Ask (record { 0 = n % 4 }) (op_of (draw / 65536 % 4) n)) (Flow 1000 ∷ []) ask (All-cons IsSaid (Flow 1000) [] flow (All-nil IsSaid)))
