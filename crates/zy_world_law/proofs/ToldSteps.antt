-- What the law sees of a step: what was said is read back out of the texts.
use Rattle.std.proofs.Common.{◌≡◌, ◌≢◌, ℕ, zero, suc, ◌+◌, ◌-◌, Bool, true, false, cond, eqb, List, [], ◌∷◌, ◌++◌, length, map, Some, refl, ap, ◌∙◌, arith, eq-eqb, ne_eqb}
use Rattle.std.specs.Prelude.{slice_get}
use Rattle.zy_base.specs.declared.ids.Party.{Party}
use Rattle.zy_law.specs.World.{Spoken, Stand, Statement}
use Rattle.zy_law_normal.specs.Acts.{spoken_in, spoken_at, with_more}
use Rattle.zy_law_steps.specs.Spelled.{FitAll}
use Rattle.zy_table.specs.Deeds.{said_from}
use Rattle.zy_table.specs.declared.deeds.Act.{Act}
use Rattle.zy_table.specs.declared.deeds.Act.TheVariants.{Says, Gains, Adopts}
use Rattle.zy_world_law.specs.Events.{remark_after}
use Rattle.zy_world_law.specs.Seen.{spoken_by}
use Rattle.zy_world_law.proofs.StepLaws.{ReadsBack}

-- ---- lists of several parties

pub own_more : {A : Type 0} (lists : ℕ → List A) (of : ℕ) (more : List A) → with_more lists of more of ≡ lists of ++ more
own_more lists of more = ap (λ (b : Bool). cond b (lists of ++ more) (lists of)) (eq-eqb of of refl)

pub other_more : {A : Type 0} (lists : ℕ → List A) (of : ℕ) (more : List A) (q : ℕ) → q ≢ of → with_more lists of more q ≡ lists q
other_more lists of more q other = ap (λ (b : Bool). cond b (lists q ++ more) (lists q)) (ne_eqb q of other)

pub get_front : {A : Type 0} (xs ys : List A) (i : ℕ) (y : A) → slice_get xs i ≡ Some y → slice_get (xs ++ ys) i ≡ Some y
get_front [] ys i y is = absurd cc
get_front (x ∷ xs) ys zero y is = is
get_front (x ∷ xs) ys (suc i) y is = get_front xs ys i y is

more_by : {A : Type 0} (b : Bool) (xs more : List A) (i : ℕ) (y : A) → slice_get xs i ≡ Some y → slice_get (cond b (xs ++ more) xs) i ≡ Some y
more_by true xs more i y is = get_front xs more i y is
more_by false xs more i y is = is

pub more_kept : {A : Type 0} (lists : ℕ → List A) (of : ℕ) (more : List A) (q i : ℕ) (y : A) → slice_get (lists q) i ≡ Some y → slice_get (with_more lists of more q) i ≡ Some y
more_kept lists of more q i y is = more_by (eqb q of) (lists q) more i y is

pub map_append : {A B : Type 0} (f : A → B) (xs ys : List A) → map f (xs ++ ys) ≡ map f xs ++ map f ys
map_append f [] ys = refl
map_append f (x ∷ xs) ys = ap (λ (l : List _). f x ∷ l) (map_append f xs ys)

-- ---- statements

-- at the next stand
spoken_next : (r : ℕ) (past : List Stand) (pairs : ℕ) (acts : List Act) → spoken_in r (length past - 1 + (pairs + 1)) acts ≡ spoken_in r (length past - 1 + pairs + 1) acts
spoken_next r past pairs acts =
    let one : length past - 1 + (pairs + 1) ≡ length past - 1 + pairs + 1 = omega arith in
    ap (λ (n : ℕ). spoken_in r n acts) one

pub spoken_told : (back : ReadsBack) (me : Party) (r : ℕ) (past : List Stand) (pairs : ℕ) (acts : List Act) → FitAll acts
    → map (spoken_by r) (map (remark_after past) (said_from me pairs acts)) ≡ spoken_in r (length past - 1 + pairs) acts
spoken_told back me r past pairs [] fit = refl
spoken_told back me r past pairs (Says remark ∷ acts) fit =
    ap (λ (what : Statement). record { what = what; when = length past - 1 + pairs } ∷ map (spoken_by r) (map (remark_after past) (said_from me pairs acts))) (back r me remark.body fit.0)
    ∙ ap (λ (l : List Spoken). spoken_at r (length past - 1 + pairs) remark ∷ l) (spoken_told back me r past pairs acts fit.1)
spoken_told back me r past pairs (Gains got ∷ acts) fit = spoken_told back me r past (pairs + 1) acts fit ∙ spoken_next r past pairs acts
spoken_told back me r past pairs (Adopts begun common gots ∷ acts) fit = spoken_told back me r past (pairs + 1) acts fit ∙ spoken_next r past pairs acts
