-- What a text says line by line: what is read was spelled so, and what is spelled so is read again.
use Rattle.std.proofs.Common.{◌≡◌, ℕ, suc, true, false, cond, List, [], ◌∷◌, Result, Ok, Err, Vec, refl, subst}
use Rattle.std.specs.Prelude.{All, filter, not, IfOk}
use Rattle.std.specs.List.{AllZip}
use Rattle.std.specs.declared.alloc.Global.{Global}
use Rattle.zy_schedule.specs.Lines.{IsTextRead, TextFault, before_others, is_said, is_skipped, items_from, lines_of, said_lines, text_of}
use Rattle.zy_schedule.specs.declared.fault.ScheduleFault.{ScheduleFault}
use Rattle.std.proofs.lemmas.List.Elements.{All-cons, All-nil}

abbrev all_read : {A : Type 0} → List A → Result (List A) TextFault
all_read xs = Ok xs

all_is : {A : Type 0} (xs ys : List A) → all_read xs ≡ all_read ys → xs ≡ ys
all_is xs ys e = cc

-- what the first line and the others say
parts_read : {A : Type 0} (number : ℕ) (first : Result A ℕ) (others : Result (List A) TextFault) (xs : List A) → before_others number first others ≡ all_read xs
    → (x : A) × (ys : List A) × (first ≡ Ok x) × (others ≡ all_read ys) × (x ∷ ys ≡ xs)
parts_read number (Err rule) others xs e = absurd cc
parts_read number (Ok x) (Err fault) xs e = absurd cc
parts_read number (Ok x) (Ok ys) xs e = (x, ys, refl, refl, all_is (x ∷ ys) xs e)

lines_take : {A : Type 0} (read : List ℕ → Result A ℕ) (IsLine : A → List ℕ → Type 0) → ((line : List ℕ) (x : A) → read line ≡ Ok x → IsLine x line)
    → (number : ℕ) (lines : List (List ℕ)) (xs : List A) → items_from read number lines ≡ all_read xs → AllZip IsLine xs (filter is_said lines)
lines_take read IsLine takes number [] xs e = subst (λ ys. AllZip IsLine ys []) (all_is [] xs e) tt
lines_take {A} read IsLine takes number (line ∷ lines) xs e =
    let others = items_from read (suc number) lines in
    let left = filter is_said lines in
    elim (is_skipped line) as (λ b. cond b others (before_others number (read line) others) ≡ all_read xs → AllZip IsLine xs (cond (not b) (line ∷ left) left)) [
      | true ↦ λ f. lines_take read IsLine takes (suc number) lines xs f
      | false ↦ λ f.
          let p = parts_read number (read line) others xs f in
          subst (λ (ys : List A). AllZip IsLine ys (line ∷ left)) p.4 (takes line p.0 p.2, lines_take read IsLine takes (suc number) lines p.1 p.3)
    ] e

said_again : {A : Type 0} (read : List ℕ → Result A ℕ) (IsLine : A → List ℕ → Type 0) → ((line : List ℕ) (x : A) → IsLine x line → read line ≡ Ok x)
    → (number : ℕ) (line : List ℕ) (left : List (List ℕ)) (others : Result (List A) TextFault) (xs : List A) → ((ys : List A) → AllZip IsLine ys left → others ≡ all_read ys)
    → AllZip IsLine xs (line ∷ left) → before_others number (read line) others ≡ all_read xs
said_again read IsLine again number line left others [] behind spelled = absurd spelled
said_again read IsLine again number line left others (x ∷ xs) behind spelled = rw (again line x spelled.0, behind xs spelled.1) refl

lines_again : {A : Type 0} (read : List ℕ → Result A ℕ) (IsLine : A → List ℕ → Type 0) → ((line : List ℕ) (x : A) → IsLine x line → read line ≡ Ok x)
    → (number : ℕ) (lines : List (List ℕ)) (xs : List A) → AllZip IsLine xs (filter is_said lines) → items_from read number lines ≡ all_read xs
lines_again read IsLine again number [] [] spelled = refl
lines_again read IsLine again number [] (x ∷ xs) spelled = absurd spelled
lines_again {A} read IsLine again number (line ∷ lines) xs spelled =
    let others = items_from read (suc number) lines in
    let left = filter is_said lines in
    elim (is_skipped line) as (λ b. AllZip IsLine xs (cond (not b) (line ∷ left) left) → cond b others (before_others number (read line) others) ≡ all_read xs) [
      | true ↦ λ s. lines_again read IsLine again (suc number) lines xs s
      | false ↦ λ s. said_again read IsLine again number line left others xs (λ ys t. lines_again read IsLine again (suc number) lines ys t) s
    ] spelled

-- ---- what a function returned

pub is_found : {A : Type 0} (read : List ℕ → Result A ℕ) (IsLine : A → List ℕ → Type 0) → ((line : List ℕ) (x : A) → read line ≡ Ok x → IsLine x line)
    → (text : List ℕ) (result : Result (Vec A Global) ScheduleFault) → IsTextRead (text_of read text) result → IfOk result (λ items. AllZip IsLine items.items (said_lines text))
is_found read IsLine takes text (Ok items) h = lines_take read IsLine takes 1 (lines_of text) items.items h
is_found read IsLine takes text (Err fault) h = tt

pub is_only : {A : Type 0} (read : List ℕ → Result A ℕ) (IsLine : A → List ℕ → Type 0) → ((line : List ℕ) (x : A) → IsLine x line → read line ≡ Ok x)
    → (text : List ℕ) (result : Result (Vec A Global) ScheduleFault) → IsTextRead (text_of read text) result → (xs : List A) → AllZip IsLine xs (said_lines text) → IsTextRead (Ok xs) result
is_only read IsLine again text result h xs spelled = subst (λ r. IsTextRead r result) (lines_again read IsLine again 1 (lines_of text) xs spelled) h

-- ---- what is said of each item alone

-- what each item's line shows of it
all_fit : {A : Type 0} (IsLine : A → List ℕ → Type 0) (Fits : A → Type 0) → ((x : A) (line : List ℕ) → IsLine x line → Fits x) → (xs : List A) (lines : List (List ℕ)) → AllZip IsLine xs lines → All Fits xs
all_fit IsLine Fits shows [] [] spelled = All-nil Fits
all_fit IsLine Fits shows [] (line ∷ lines) spelled = All-nil Fits
all_fit IsLine Fits shows (x ∷ xs) [] spelled = absurd spelled
all_fit IsLine Fits shows (x ∷ xs) (line ∷ lines) spelled = All-cons Fits x xs (shows x line spelled.0) (all_fit IsLine Fits shows xs lines spelled.1)

pub is_fit : {A : Type 0} (read : List ℕ → Result A ℕ) (IsLine : A → List ℕ → Type 0) (Fits : A → Type 0) → ((line : List ℕ) (x : A) → read line ≡ Ok x → IsLine x line) → ((x : A) (line : List ℕ) → IsLine x line → Fits x)
    → (text : List ℕ) (result : Result (Vec A Global) ScheduleFault) → IsTextRead (text_of read text) result → IfOk result (λ items. All Fits items.items)
is_fit read IsLine Fits takes shows text (Ok items) h = all_fit IsLine Fits shows items.items (said_lines text) (lines_take read IsLine takes 1 (lines_of text) items.items h)
is_fit read IsLine Fits takes shows text (Err fault) h = tt
