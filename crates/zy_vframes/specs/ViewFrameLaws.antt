-- The laws that the trait of frames asks: what is read by a kind was spelled so and is in range, and what was spelled is
-- read by its kind.
use Rattle.std.proofs.Common.{◌≡◌, ℕ, ◌≤◌, cond, eqb, List, ◌++◌, Result, Ok, refl, arith}
use Rattle.std.specs.Int.{w32}
use Rattle.zy_base.specs.declared.frame_fault.FrameFault.{FrameFault}
use Rattle.zy_base.specs.declared.frame_fault.FrameFault.TheVariants.{Kind}
use Rattle.zy_wire.specs.Spelling.{Spelling, IsExact, IsChoice, made}
use Rattle.zy_wire.specs.Kind.{greatest_kind}
use Rattle.zy_wire.specs.Framing.{IsFraming}
use Rattle.zy_wire.proofs.Parts.{pair-exact, converted-exact, wide32}
use Rattle.zy_wire.proofs.Laws.{u62-exact, sized-exact, list-exact, FitsList-weaker}
use Rattle.zy_wire.proofs.Choices.{Takes, Takes-or, Takes-none, made_again}
use Rattle.zy_parts.specs.Reports.{change_fields, new_fields, began_fields, fetch_fields}
use Rattle.zy_parts.specs.Signing.{signed}
use Rattle.zy_parts.specs.Exact.{signed-exact, signed-in_range}
use Rattle.zy_parts.specs.ReportsExact.{change-exact, change-in_range, new-exact, new-in_range, began-exact, began-in_range, fetch-exact, fetch-in_range}
use Rattle.zy_vframes.specs.declared.frame.ViewFrame.{ViewFrame}
use Rattle.zy_vframes.specs.declared.frame.ViewFrame.TheVariants as frames
use Rattle.zy_vframes.specs.ViewFrames.{view_certificate, state, greatest_length, kind_of_frame, fields_of, FitsFrame, IsFrameInRange, frame_at}

-- ---- the fields of each kind

view_certificate-exact : IsExact view_certificate
view_certificate-exact = converted-exact _ _ _ (pair-exact _ _ (signed-exact _ new-exact) (list-exact 1 16 _ (signed-exact _ began-exact) (omega arith))) (λ f. refl) (λ x. refl)

state-exact : IsExact state
state-exact = pair-exact _ _ (u62-exact 0) (sized-exact w32 greatest_length wide32 (omega arith))

-- ---- a frame by its kind

module _ (kind : ℕ) where
  or : {B : Type 0} (make : B → ViewFrame) (S : Spelling B) → IsExact S → (k : ℕ) → ((y : B) → kind_of_frame (make y) ≡ k) → ((y : B) → fields_of (make y) ≡ S.spell y) → ((y : B) → S.Fits y → FitsFrame (make y)) → (other : List ℕ → Result (ViewFrame × List ℕ) FrameFault) → Takes kind_of_frame fields_of FitsFrame kind other → Takes kind_of_frame fields_of FitsFrame kind (λ bytes. cond (eqb kind k) (made make S bytes) (other bytes))
  or make S exact k is_kind is_spelled is_fit other rest = Takes-or kind_of_frame fields_of FitsFrame make S exact k is_kind is_spelled is_fit kind other rest

  frame_takes : Takes kind_of_frame fields_of FitsFrame kind (frame_at kind)
  unfolding frame_at fields_of FitsFrame
  frame_takes =
      or frames.ViewChange (signed change_fields) (signed-exact _ change-exact) 11 (λ y. refl) (λ y. refl) (λ y h. h) _
      (or frames.NewView (signed new_fields) (signed-exact _ new-exact) 12 (λ y. refl) (λ y. refl) (λ y h. h) _
      (or frames.ViewConfirm (signed began_fields) (signed-exact _ began-exact) 13 (λ y. refl) (λ y. refl) (λ y h. h) _
      (or frames.ViewCert view_certificate view_certificate-exact 14 (λ y. refl) (λ y. refl) (λ y h. h) _
      (or frames.Fetch (signed fetch_fields) (signed-exact _ fetch-exact) 15 (λ y. refl) (λ y. refl) (λ y h. h) _
      (or (λ x. frames.State (record { 0 = x.0 }) x.1) state state-exact 16 (λ y. refl) (λ y. refl) (λ y h. h) _
      (Takes-none kind_of_frame fields_of FitsFrame kind Kind))))))

frame_again : (f : ViewFrame) (rest : List ℕ) → FitsFrame f → frame_at (kind_of_frame f) (fields_of f ++ rest) ≡ Ok (f, rest)
unfolding frame_at fields_of FitsFrame
frame_again (frames.ViewChange change) rest fits = made_again frames.ViewChange (signed change_fields) (signed-exact _ change-exact) change rest fits
frame_again (frames.NewView new) rest fits = made_again frames.NewView (signed new_fields) (signed-exact _ new-exact) new rest fits
frame_again (frames.ViewConfirm began) rest fits = made_again frames.ViewConfirm (signed began_fields) (signed-exact _ began-exact) began rest fits
frame_again (frames.ViewCert certificate) rest fits = made_again frames.ViewCert view_certificate view_certificate-exact certificate rest fits
frame_again (frames.Fetch fetch) rest fits = made_again frames.Fetch (signed fetch_fields) (signed-exact _ fetch-exact) fetch rest fits
frame_again (frames.State place snapshot) rest fits = made_again (λ x. frames.State (record { 0 = x.0 }) x.1) state state-exact (place.0, snapshot) rest fits

frame-choice : IsChoice kind_of_frame fields_of FitsFrame frame_at
frame-choice = record { takes = frame_takes; again = frame_again }

kind-bounds : (f : ViewFrame) → (1 ≤ kind_of_frame f) × (kind_of_frame f ≤ greatest_kind)
kind-bounds (frames.ViewChange change) = (omega arith, omega arith)
kind-bounds (frames.NewView new) = (omega arith, omega arith)
kind-bounds (frames.ViewConfirm began) = (omega arith, omega arith)
kind-bounds (frames.ViewCert certificate) = (omega arith, omega arith)
kind-bounds (frames.Fetch fetch) = (omega arith, omega arith)
kind-bounds (frames.State place snapshot) = (omega arith, omega arith)

FitsFrame-in_range : (f : ViewFrame) → FitsFrame f → IsFrameInRange f
unfolding FitsFrame
FitsFrame-in_range (frames.ViewChange change) fits = signed-in_range _ _ change-in_range change fits
FitsFrame-in_range (frames.NewView new) fits = signed-in_range _ _ new-in_range new fits
FitsFrame-in_range (frames.ViewConfirm began) fits = signed-in_range _ _ began-in_range began fits
FitsFrame-in_range (frames.ViewCert certificate) fits = (signed-in_range _ _ new-in_range certificate.new fits.0, FitsList-weaker _ _ (signed-in_range _ _ began-in_range) 1 16 certificate.begans fits.1)
FitsFrame-in_range (frames.Fetch fetch) fits = signed-in_range _ _ fetch-in_range fetch fits
FitsFrame-in_range (frames.State place snapshot) fits = fits

pub frame-laws : IsFraming kind_of_frame fields_of FitsFrame IsFrameInRange frame_at
frame-laws = record { choice = frame-choice; least = λ f. (kind-bounds f).0; most = λ f. (kind-bounds f).1; ranges = FitsFrame-in_range }
