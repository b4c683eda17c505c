-- What a schedule's line allows is allowed of its event.
use Rattle.std.proofs.Common.{◌≡◌, ℕ, suc, ◌==◌, ◌+◌, ◌≤◌, inl, inr, List, [], ◌∷◌, length, Result, Ok, Err, refl, sym, ap, arith}
use Rattle.std.specs.Result.{result_unwrap_or}
use Rattle.std.proofs.lemmas.Bool.{cases_Bool}
use Rattle.zy_base.specs.declared.ids.ClientId.{ClientId}
use Rattle.zy_base.specs.declared.ids.Party.{Party}
use Rattle.zy_base.specs.declared.ids.View.{View}
use Rattle.zy_schedule.specs.Lines.{TextFault, before_others, is_skipped, items_from, lines_of, onto_first}
use Rattle.zy_schedule.specs.Reading.{line_read, schedule_of}
use Rattle.zy_schedule.specs.Texts.{IsSaid}
use Rattle.zy_schedule.specs.declared.line.Line.{Line}
use Rattle.zy_schedule.specs.declared.line.Line.TheVariants as lines
use Rattle.zy_tuple.specs.Values.{IsOp, IsReply}
use Rattle.zy_tuple.specs.declared.values.Op.{Op}
use Rattle.zy_tuple.specs.declared.values.Reply.{Reply}
use Rattle.zy_world.specs.Event.{IsHistoryTold}

-- ---- what is said

pub said_op : (client : ClientId) (op : Op) → IsSaid (lines.Ask client op) → IsOp op
said_op client op said = said.1.1

pub said_order : (liar : Party) (view : View) (asks : List ℕ) (to : List Party) → IsSaid (lines.Order liar view asks to) → IsHistoryTold view asks
said_order liar view asks to said = record { view_fits = said.1.1; some = said.1.2.0; most = said.1.2.1 }

pub said_spec : (liar : Party) (view : View) (asks : List ℕ) (to : List Party) (reply : Reply) → IsSaid (lines.Spec liar view asks to reply) → IsHistoryTold view asks × IsReply reply
said_spec liar view asks to reply said = (record { view_fits = said.1.1; some = said.1.2.0; most = said.1.2.1 }, said.1.4)

pub said_flow : (events : ℕ) → IsSaid (lines.Flow events) → events ≤ 100000
said_flow events said = said.1

-- ---- a text has no more lines than bytes

onto_few : (c : ℕ) (n : ℕ) (ls : List (List ℕ)) → length ls ≤ n → length (onto_first c ls) ≤ n + 1
onto_few c n [] few = omega arith
onto_few c n (l ∷ ls) few = omega (arith, few)

lines_few : (text : List ℕ) → length (lines_of text) ≤ length text
lines_few [] = omega arith
lines_few (c ∷ text) =
    let others = lines_few text in
    elim (cases_Bool (c == 10)) [
      | inl feed ↦ rw feed (omega (arith, others))
      | inr other ↦ rw other (omega (arith, onto_few c (length text) (lines_of text) others))
    ]

before_ok : {A : Type 0} (number : ℕ) (r : Result A ℕ) (others : Result (List A) TextFault) (items : List A) → before_others number r others ≡ Ok items
    → (rest : List A) × ((others ≡ Ok rest) × (length items ≡ length rest + 1))
before_ok {A = A} number (Err rule) others items is = absurd cc
before_ok {A = A} number (Ok x) (Err fault) items is = absurd cc
before_ok {A = A} number (Ok x) (Ok rest) items is =
    let len : length items ≡ length (x ∷ rest) = ap (λ (r : Result (List A) TextFault). length (result_unwrap_or r [])) (sym is) in
    (rest, (refl, omega (arith, len)))

items_few : {A : Type 0} (read : List ℕ → Result A ℕ) (number : ℕ) (ls : List (List ℕ)) (items : List A) → items_from read number ls ≡ Ok items → length items ≤ length ls
items_few {A = A} read number [] items is =
    let len : length items ≡ 0 = ap (λ (r : Result (List A) TextFault). length (result_unwrap_or r [])) (sym is) in omega (arith, len)
items_few {A = A} read number (l ∷ ls) items is =
    elim (cases_Bool (is_skipped l)) [
      | inl skipped ↦ omega (arith, items_few read (suc number) ls items (rw skipped at is))
      | inr said ↦
          let parts = before_ok number (read l) (items_from read (suc number) ls) items (rw said at is) in
          omega (arith, items_few read (suc number) ls parts.0 parts.1.0, parts.1.1)
    ]

pub schedule_few : (text : List ℕ) (items : List Line) → schedule_of text ≡ Ok items → length items ≤ length text
schedule_few text items is = omega (arith, items_few line_read 1 (lines_of text) items is, lines_few text)
