-- The world's lists after a replica's acts.
use Rattle.std.proofs.Common.{◌≡◌, ℕ, ◌+◌, Bool, true, false, cond, eqb, List, [], ◌∷◌, ◌++◌, map, refl, sym, ap, ◌∙◌, arith, append_assoc, append-nil}
use Rattle.zy_base.specs.declared.ids.Party.{Party}
use Rattle.zy_base.specs.declared.step.Spoken.{Spoken as StepSpoken}
use Rattle.zy_chain.specs.declared.entry.Entry.{Entry}
use Rattle.zy_law.specs.Steps.Act.{Say, Move}
use Rattle.zy_law.specs.Steps.{after_act, after_acts, grown, with_last}
use Rattle.zy_law.specs.World.{Spoken, Stand, World}
use Rattle.zy_law_normal.specs.Acts.{law_acts, spoken_in, stands_in, with_more, spoken_at, stand_with, adopted_history, stand_adopted}
use Rattle.zy_table.specs.Deeds.{said_from}
use Rattle.zy_table.specs.declared.deeds.Act.{Act}
use Rattle.zy_table.specs.declared.deeds.Act.TheVariants.{Says as SaysIt, Gains, Adopts}

more_of : {A : Type 0} (b : Bool) (xs : List A) (x : A) (more : List A) → cond b (cond b (xs ++ x ∷ []) xs ++ more) (cond b (xs ++ x ∷ []) xs) ≡ cond b (xs ++ x ∷ more) xs
more_of true xs x more = append_assoc xs (x ∷ []) more
more_of false xs x more = refl

more_last : {A : Type 0} (lists : ℕ → List A) (of : ℕ) (x : A) (more : List A) → with_more (with_last lists of x) of more ≡ with_more lists of (x ∷ more)
more_last lists of x more = λ i q. more_of (eqb q of) (lists q) x more i

none_of : {A : Type 0} (b : Bool) (xs : List A) → xs ≡ cond b (xs ++ []) xs
none_of true xs = sym (append-nil xs)
none_of false xs = refl

more_none : {A : Type 0} (lists : ℕ → List A) (of : ℕ) → lists ≡ with_more lists of []
more_none lists of = λ i q. none_of (eqb q of) (lists q) i

pub lists_after : (w : World) (r view number : ℕ) (h : List Entry) (acts : List Act)
    → after_acts w r (law_acts r view number h acts) ≡ grown w w.asked (with_more w.said r (spoken_in r number acts)) (with_more w.past r (stands_in view h acts)) w.kept
lists_after w r view number h [] =
    ap (λ (said : ℕ → List Spoken). grown w w.asked said w.past w.kept) (more_none w.said r)
    ∙ ap (λ (past : ℕ → List Stand). grown w w.asked (with_more w.said r []) past w.kept) (more_none w.past r)
lists_after w r view number h (SaysIt remark ∷ acts) =
    let x : Spoken = spoken_at r number remark in
    lists_after (after_act w r (Say x)) r view number h acts
    ∙ ap (λ (said : ℕ → List Spoken). grown w w.asked said (with_more w.past r (stands_in view h acts)) w.kept) (more_last w.said r x (spoken_in r number acts))
lists_after w r view number h (Gains got ∷ acts) =
    let b : Stand = stand_with view h got in
    lists_after (after_act w r (Move b)) r view (number + 1) (h ++ got.entry ∷ []) acts
    ∙ ap (λ (past : ℕ → List Stand). grown w w.asked (with_more w.said r (spoken_in r (number + 1) acts)) past w.kept) (more_last w.past r b (stands_in view (h ++ got.entry ∷ []) acts))
lists_after w r view number h (Adopts begun common gots ∷ acts) =
    let b : Stand = stand_adopted begun h common gots in
    let next : List Entry = adopted_history h common gots in
    lists_after (after_act w r (Move b)) r begun.0 (number + 1) next acts
    ∙ ap (λ (past : ℕ → List Stand). grown w w.asked (with_more w.said r (spoken_in r (number + 1) acts)) past w.kept) (more_last w.past r b (stands_in begun.0 next acts))

-- told at the next stand
told_next : (r number pairs : ℕ) (acts : List Act) → map (λ (x : Spoken). x.when) (spoken_in r (number + pairs + 1) acts) ≡ map (λ (x : Spoken). x.when) (spoken_in r (number + (pairs + 1)) acts)
told_next r number pairs acts =
    let one : number + pairs + 1 ≡ number + (pairs + 1) = omega arith in
    ap (λ (n : ℕ). map (λ (x : Spoken). x.when) (spoken_in r n acts)) one

numbers_from : (me : Party) (r number pairs : ℕ) (acts : List Act) → map (λ (x : Spoken). x.when) (spoken_in r (number + pairs) acts) ≡ map (λ (x : StepSpoken). number + x.pairs) (said_from me pairs acts)
numbers_from me r number pairs [] = refl
numbers_from me r number pairs (SaysIt remark ∷ acts) = ap (λ (l : List ℕ). (number + pairs) ∷ l) (numbers_from me r number pairs acts)
numbers_from me r number pairs (Gains got ∷ acts) = told_next r number pairs acts ∙ numbers_from me r number (pairs + 1) acts
numbers_from me r number pairs (Adopts begun common gots ∷ acts) = told_next r number pairs acts ∙ numbers_from me r number (pairs + 1) acts

pub numbers_are : (me : Party) (r number : ℕ) (acts : List Act) → map (λ (x : Spoken). x.when) (spoken_in r number acts) ≡ map (λ (x : StepSpoken). number + x.pairs) (said_from me 0 acts)
numbers_are me r number acts =
    let none : number ≡ number + 0 = omega arith in
    ap (λ (n : ℕ). map (λ (x : Spoken). x.when) (spoken_in r n acts)) none ∙ numbers_from me r number 0 acts
