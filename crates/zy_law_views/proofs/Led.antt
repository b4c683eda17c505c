-- Acts one after another: each is allowed, and where they lead.
use Rattle.std.proofs.Common.{◌≡◌, ℕ, ◌+◌, List, [], ◌∷◌, ◌++◌, refl, sym, ap, ◌∙◌, subst}
use Rattle.zy_base.specs.declared.ids.Place.{Place}
use Rattle.zy_base.specs.declared.ids.View.{View}
use Rattle.zy_chain.specs.declared.entry.Entry.{Entry}
use Rattle.std.proofs.Common.{append_assoc}
use Rattle.zy_law.specs.Steps as law
use Rattle.zy_law.specs.Steps.{AllMay, MaySay, MayStand, after_act, after_acts, after_saying, after_standing}
use Rattle.zy_law.specs.World.{World}
use Rattle.zy_law_normal.proofs.Goes.{AllMay-append}
use Rattle.zy_law_normal.specs.Acts.{adopted_history, history_after, law_acts, spoken_at, stand_adopted}
use Rattle.zy_table.specs.declared.deeds.Act.{Act}
use Rattle.zy_table.specs.declared.deeds.Act.TheVariants.{Says, Adopts}
use Rattle.zy_table.specs.declared.deeds.Got.{Got}
use Rattle.zy_table.specs.declared.deeds.Remark.{Remark}

after_both : (w : World) (r : ℕ) (xs ys : List law.Act) → after_acts w r (xs ++ ys) ≡ after_acts (after_acts w r xs) r ys
after_both w r [] ys = refl
after_both w r (x ∷ xs) ys = after_both (after_act w r x) r xs ys

-- A replica's acts in a view, from a number of its last stand and a history on, are allowed. They lead to another world, view,
-- number and history: what follows them goes on from there.
pub record LeadsTo (w : World) (r view number : ℕ) (h : List Entry) (acts : List Act) (v : World) (later at : ℕ) (now : List Entry) : Type 0 where
  pub may : AllMay w r (law_acts r view number h acts)
  pub world : after_acts w r (law_acts r view number h acts) ≡ v
  pub history : history_after h acts ≡ now
  pub on : (more : List Act) → law_acts r view number h (acts ++ more) ≡ law_acts r view number h acts ++ law_acts r later at now more
  pub after : (more : List Act) → history_after h (acts ++ more) ≡ history_after now more

pub leads_nowhere : (w : World) (r view number : ℕ) (h : List Entry) → LeadsTo w r view number h [] w view number h
leads_nowhere w r view number h = record { may = tt; world = refl; history = refl; on = λ more. refl; after = λ more. refl }

-- and on from there
pub leads_on : (w : World) (r view number : ℕ) (h : List Entry) (acts more : List Act) (v u : World) (later last at end : ℕ) (now then : List Entry) → LeadsTo w r view number h acts v later at now
    → LeadsTo v r later at now more u last end then → LeadsTo w r view number h (acts ++ more) u last end then
leads_on w r view number h acts more v u later last at end now then first second =
    record {
      may =
          subst (λ (l : List law.Act). AllMay w r l) (sym (first.on more))
          (AllMay-append w r (law_acts r view number h acts) (law_acts r later at now more) first.may (subst (λ (x : World). AllMay x r (law_acts r later at now more)) (sym first.world) second.may));
      world =
          ap (after_acts w r) (first.on more)
          ∙ after_both w r (law_acts r view number h acts) (law_acts r later at now more)
          ∙ ap (λ (x : World). after_acts x r (law_acts r later at now more)) first.world
          ∙ second.world;
      history = first.after more ∙ second.history;
      on = λ rest.
          ap (law_acts r view number h) (append_assoc acts more rest)
          ∙ first.on (more ++ rest)
          ∙ ap (λ (l : List law.Act). law_acts r view number h acts ++ l) (second.on rest)
          ∙ sym (append_assoc (law_acts r view number h acts) (law_acts r later at now more) (law_acts r last end then rest))
          ∙ ap (λ (l : List law.Act). l ++ law_acts r last end then rest) (sym (first.on more));
      after = λ rest. ap (history_after h) (append_assoc acts more rest) ∙ first.after (more ++ rest) ∙ second.after rest;
    }

-- a statement, and a view that begins
pub leads_saying : (w : World) (r view number : ℕ) (h : List Entry) (remark : Remark) → MaySay w r (spoken_at r number remark)
    → LeadsTo w r view number h (Says remark ∷ []) (after_saying w r (spoken_at r number remark)) view number h
leads_saying w r view number h remark may = record { may = (may, tt); world = refl; history = refl; on = λ more. refl; after = λ more. refl }

pub leads_adopting : (w : World) (r view number : ℕ) (h : List Entry) (begun : View) (common : Place) (gots : List Got) → MayStand w r (stand_adopted begun h common gots)
    → LeadsTo w r view number h (Adopts begun common gots ∷ []) (after_standing w r (stand_adopted begun h common gots)) begun.0 (number + 1) (adopted_history h common gots)
leads_adopting w r view number h begun common gots may = record { may = (may, tt); world = refl; history = refl; on = λ more. refl; after = λ more. refl }
