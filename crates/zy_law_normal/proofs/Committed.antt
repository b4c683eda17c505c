-- The commit certificate that a replica holds, where another comes.
use Rattle.std.proofs.Common.{◌≡◌, ℕ, ◌<◌, true, false, List, Option, Some, None, refl, ◌∙◌, subst, arith, ltb-true, ltb-false}
use Rattle.zy_base.specs.declared.ids.Place.{Place}
use Rattle.zy_chain.specs.Stretch.{Mark}
use Rattle.zy_change.specs.Views.{is_further}
use Rattle.zy_change.specs.declared.kept.Certificate.{Certificate}
use Rattle.zy_law.proofs.GrownLemmas.{certified_grown, with_last-kept}
use Rattle.zy_law.specs.Fixed.{IsCertified}
use Rattle.zy_law.specs.Steps.{after_saying, with_last}
use Rattle.zy_law.specs.World.{Spoken, World}
use Rattle.zy_law_normal.proofs.Own.{by_test}
use Rattle.zy_law_normal.specs.Tied.{IsHeldFrom}
use Rattle.zy_parts.specs.declared.signed.Signed.{Signed}
use Rattle.zy_parts.specs.declared.statements.Spec.{Spec}
use Rattle.zy_table.specs.Gathering.{with_certificate}
use Rattle.zy_table.specs.State.{State}

-- what is certified stays so after something was said
pub certified_said : (w : World) (r : ℕ) (y : Spoken) (view : ℕ) (m : Mark) → IsCertified w view m → IsCertified (after_saying w r y) view m
certified_said w r y view m is =
    certified_grown w w.asked (with_last w.said r y) w.past w.kept (λ q e has. has) (λ q i x has. with_last-kept w.said r y q i x has) (λ q i b has. has) view m is

-- ---- a certificate that comes

-- another certificate is held
abbrev pub holding : {S : Type 0} → State S → Option Certificate → State S
holding s held = record s { views = record s.views { specs = held } }

-- the certificate that is held then: the one that came, where it is the first or further, or the one before
pub data IsFurthest (place : Place) (specs : List (Signed Spec)) (before held : Option Certificate) : Type 0 where
  came : held ≡ Some (record { place = place; specs = specs }) → ((c : Certificate) → before ≡ Some c → c.place.0 < place.0) → IsFurthest place specs before held
  stays : held ≡ before → IsHeldFrom before place.0 → IsFurthest place specs before held

-- it is as far as the one before, and as the one that came
pub from_further : (place : Place) (specs : List (Signed Spec)) (before held : Option Certificate) → IsFurthest place specs before held → (at : ℕ) → IsHeldFrom before at → IsHeldFrom held at
from_further place specs before held (came is older) at from =
    record { certificate = record { place = place; specs = specs }; is = is; far = omega (arith, from.far, older from.certificate from.is) }
from_further place specs before held (stays is far) at from = record { certificate = from.certificate; is = is ∙ from.is; far = from.far }

pub from_came : (place : Place) (specs : List (Signed Spec)) (before held : Option Certificate) → IsFurthest place specs before held → IsHeldFrom held place.0
from_came place specs before held (came is older) = record { certificate = record { place = place; specs = specs }; is = is; far = omega arith }
from_came place specs before held (stays is far) = record { certificate = far.certificate; is = is ∙ far.is; far = far.far }

-- whether a certificate is further than the one before
further : (place : Place) (before : Option Certificate) → is_further place before ≡ true → (c : Certificate) → before ≡ Some c → c.place.0 < place.0
further place None is c before = absurd cc
further place (Some kept) is c before = let same : kept ≡ c = cc in subst (λ (d : Certificate). d.place.0 < place.0) same (ltb-true kept.place.0 place.0 is)

not_further : (place : Place) (before : Option Certificate) → is_further place before ≡ false → IsHeldFrom before place.0
not_further place None is = absurd cc
not_further place (Some kept) is = record { certificate = kept; is = refl; far = ltb-false kept.place.0 place.0 is }

-- what holds whichever certificate is held then
pub by_certificate : {S : Type 0} (s : State S) (Q : State S → Type 0) (place : Place) (specs : List (Signed Spec)) → ((held : Option Certificate) → IsFurthest place specs s.views.specs held → Q (holding s held))
    → Q (with_certificate s place specs)
by_certificate s Q place specs holds =
    by_test Q (is_further place s.views.specs) _ _
    (λ is. holds (Some (record { place = place; specs = specs })) (IsFurthest.came refl (further place s.views.specs is)))
    (λ is. holds s.views.specs (IsFurthest.stays refl (not_further place s.views.specs is)))
