-- An event that isn't forged, and whose texts are kept, is honest to a replica, or it is nothing to it.
use Rattle.std.proofs.Common.{◌≡◌, ◌⊎◌, inl, inr, ℕ, Bool, true, false, List, [], Option, Some, None, Result, Ok, Err, refl, sym, ap, ◌∙◌, subst}
use Rattle.std.specs.Prelude.{if◌then◌else◌, option_map, unwrap_or}
use Rattle.std.specs.List.{AllByRecursion}
use Rattle.zy_base.specs.Machine.{Rules}
use Rattle.zy_base.specs.declared.cause.Cause.{Cause}
use Rattle.zy_base.specs.declared.cause.Cause.TheVariants as causes
use Rattle.zy_base.specs.declared.frame_fault.FrameFault.{FrameFault}
use Rattle.zy_base.specs.declared.frame_fault.FrameFault.TheVariants as faults
use Rattle.zy_base.specs.declared.step.Event.{Event}
use Rattle.zy_base.specs.declared.step.Event.TheVariants.{Heard, Timer}
use Rattle.zy_base.specs.declared.step.TimerKind.{TimerKind}
use Rattle.zy_law_views.specs.Frames.{IsHonestFrame, IsHonestlyRead}
use Rattle.zy_frames.specs.Frames as plain
use Rattle.zy_frames.specs.declared.frame.Frame.{Frame}
use Rattle.zy_law_steps.specs.Whole.{IsEventHonest}
use Rattle.zy_seal.specs.Screening.{screen}
use Rattle.zy_table.specs.Deeds.{Outcome, refused}
use Rattle.zy_table.specs.State.{State}
use Rattle.zy_table.specs.Whole.{decoded_as, hear_view, is_view_frame_in_role, unless, view_decoded, view_row, whole_step}
use Rattle.zy_table.specs.declared.deeds.AnyFrame.{AnyFrame}
use Rattle.zy_table.specs.declared.deeds.AnyFrame.TheVariants.{View}
use Rattle.zy_vframes.specs.Parts.{parts_of}
use Rattle.zy_vframes.specs.ViewFrames as views
use Rattle.zy_vframes.specs.declared.frame.ViewFrame.{ViewFrame}
use Rattle.zy_world_law.specs.Good.{IsGood, IsKept}
use Rattle.zy_world_law.specs.Honest.{forger_in}
use Rattle.zy_world_law.specs.Reading.{any_frame_in, either_read, view_read}
use Rattle.zy_world_law.specs.Seen.{seen}
use Rattle.zy_world_law.specs.Setup.{keys_of}
use Rattle.zy_world_law.specs.Texts.{texts_in, texts_of, view_frame_texts}
use Rattle.zy_world_law.specs.World.{World}
use Rattle.zy_law_views.proofs.IdleFrames.{TellsOfClients}
use Rattle.zy_world_law.proofs.DecodedReports.{decoded_read}
use Rattle.zy_world_law.proofs.EventHeld.{event_held, verified}
use Rattle.zy_world_law.proofs.HonestReports.{frame_honest}
use Rattle.zy_law_views.proofs.IdleFrames.{IsIdle, of_clients_or_idle}
use Rattle.zy_world_law.proofs.NotForged.{parts_said}

abbrev pub heard_as : List ℕ → Event
heard_as bytes = Heard bytes

pub same_heard : (a b : List ℕ) → heard_as a ≡ heard_as b → a ≡ b
same_heard a b is = cc

module _ {S : Type 0} (R : Rules S) (w : World S) (good : IsGood R w) (s : State S) (keys : s.keys ≡ keys_of w.setup) (bytes : List ℕ) (none : forger_in w bytes ≡ None) (kept : AllByRecursion (IsKept w.texts) (texts_in bytes)) where
  abbrev IsHonestlyTold : Type 0
  IsHonestlyTold = plain.frame_in bytes ≡ Err faults.Kind → IsHonestlyRead (seen R w) w.texts s (views.frame_in bytes)

  abbrev Splits : Type 0
  Splits = IsHonestlyTold ⊎ IsIdle s (whole_step R s (Heard bytes))

  -- ---- a frame of a change of view

  module _ (kind : plain.frame_in bytes ≡ Err faults.Kind) (frame : ViewFrame) (is : views.frame_in bytes ≡ Ok frame) where
    spells : any_frame_in bytes ≡ Some (View frame)
    spells = ap (λ (r : Result Frame FrameFault). either_read bytes r) kind ∙ ap (λ (r : Result ViewFrame FrameFault). view_read r) is

    brings : AllByRecursion (IsKept w.texts) (view_frame_texts frame)
    brings = subst (λ (o : Option AnyFrame). AllByRecursion (IsKept w.texts) (unwrap_or (option_map texts_of o) [])) spells kept

    steps : screen s.keys (parts_of frame) ≡ None → is_view_frame_in_role s.counts frame ≡ true → whole_step R s (Heard bytes) ≡ view_row R s frame
    unfolding whole_step
    steps clear role =
        ap (λ (r : Result Frame FrameFault). decoded_as R s bytes r) kind
        ∙ ap (λ (r : Result ViewFrame FrameFault). view_decoded R s r) is
        ∙ ap (λ (c : Option Cause). unless c s (hear_view R s frame)) clear
        ∙ ap (λ (b : Bool). if b then view_row R s frame else refused causes.WrongRole s) role

    told_honestly : TellsOfClients frame → IsHonestlyTold
    told_honestly clients again other read clear role =
        let same : frame ≡ other = same_read (sym is ∙ read) in
        subst (λ (f : ViewFrame). IsHonestFrame (seen R w) w.texts f) same (here (subst (λ (f : ViewFrame). screen s.keys (parts_of f) ≡ None) (sym same) clear) (subst (λ (f : ViewFrame). is_view_frame_in_role s.counts f ≡ true) (sym same) role))
      where
        same_read : {other : ViewFrame} → ◌≡◌ {A = Result ViewFrame FrameFault} (Ok frame) (Ok other) → frame ≡ other
        same_read e = cc

        here : screen s.keys (parts_of frame) ≡ None → is_view_frame_in_role s.counts frame ≡ true → IsHonestFrame (seen R w) w.texts frame
        here clear role =
            frame_honest R w s.counts frame (decoded_read bytes frame is) clients role (verified R w good s keys bytes none (parts_of frame) clear) (parts_said w bytes (View frame) none spells) brings

    in_role : (role : Bool) → is_view_frame_in_role s.counts frame ≡ role → screen s.keys (parts_of frame) ≡ None → Splits
    in_role true role clear = elim (of_clients_or_idle R s frame) [
      | inl clients ↦ inl (told_honestly clients)
      | inr idle ↦ inr (subst (λ (o : Outcome S). IsIdle s o) (sym (steps clear role)) idle)
    ]
    in_role false role clear = inl (λ again other read other_clear other_role. absurd (by other (sym is ∙ read) other_role))
      where
        by : (other : ViewFrame) → ◌≡◌ {A = Result ViewFrame FrameFault} (Ok frame) (Ok other) → is_view_frame_in_role s.counts other ≡ true → ⊥
        by other e holds = let same : frame ≡ other = cc in let both : false ≡ true = sym role ∙ ap (is_view_frame_in_role s.counts) same ∙ holds in absurd cc

    screened : (against : Option Cause) → screen s.keys (parts_of frame) ≡ against → Splits
    screened None clear = in_role (is_view_frame_in_role s.counts frame) refl clear
    screened (Some cause) found = inl (λ again other read clear role. absurd (by other (sym is ∙ read) clear))
      where
        by : (other : ViewFrame) → ◌≡◌ {A = Result ViewFrame FrameFault} (Ok frame) (Ok other) → screen s.keys (parts_of other) ≡ None → ⊥
        by other e clear =
            let same : frame ≡ other = cc in
            let both : Some cause ≡ None = sym found ∙ ap (λ (f : ViewFrame). screen s.keys (parts_of f)) same ∙ clear in absurd cc

  -- ---- bytes

  of_view : plain.frame_in bytes ≡ Err faults.Kind → (read : Result ViewFrame FrameFault) → views.frame_in bytes ≡ read → Splits
  of_view kind (Ok frame) is = screened kind frame is (screen s.keys (parts_of frame)) refl
  of_view kind (Err fault) is = inl (λ again other read. let both : Err fault ≡ Ok other = sym is ∙ read in absurd cc)

  never : {A : Type 0} (r : Result Frame FrameFault) → plain.frame_in bytes ≡ r → (r ≡ Err faults.Kind → ⊥) → plain.frame_in bytes ≡ Err faults.Kind → A
  never r is other kind = absurd (other (sym is ∙ kind))

  told : (read : Result Frame FrameFault) → plain.frame_in bytes ≡ read → Splits
  told (Ok frame) is = inl (never (Ok frame) is (λ e. absurd cc))
  told (Err faults.Kind) is = of_view is (views.frame_in bytes) refl
  told (Err faults.Short) is = inl (never (Err faults.Short) is (λ e. absurd cc))
  told (Err faults.Version) is = inl (never (Err faults.Version) is (λ e. absurd cc))
  told (Err faults.TooLong) is = inl (never (Err faults.TooLong) is (λ e. absurd cc))
  told (Err faults.Trailing) is = inl (never (Err faults.Trailing) is (λ e. absurd cc))
  told (Err faults.Range) is = inl (never (Err faults.Range) is (λ e. absurd cc))

  pub honest_or_idle : IsEventHonest (seen R w) w.texts s (Heard bytes) ⊎ IsIdle s (whole_step R s (Heard bytes))
  honest_or_idle = elim (told (plain.frame_in bytes) refl) [
    | inl honest ↦ inl (record {
      held = event_held R w good s keys bytes none;
      honest = λ other is kind.
          let same : bytes ≡ other = same_heard bytes other is in
          subst (λ (b : List ℕ). IsHonestlyRead (seen R w) w.texts s (views.frame_in b)) same (honest (ap (λ (b : List ℕ). plain.frame_in b) same ∙ kind));
    })
    | inr idle ↦ inr idle
  ]

-- a timer brings nothing
pub timer_honest : {S : Type 0} (R : Rules S) (w : World S) (s : State S) (kind : TimerKind) → IsEventHonest (seen R w) w.texts s (Timer kind)
timer_honest R w s kind = record { held = tt; honest = λ bytes is. absurd (by bytes is) }
  where
    by : (bytes : List ℕ) → ◌≡◌ {A = Event} (Timer kind) (Heard bytes) → ⊥
    by bytes is = absurd cc
