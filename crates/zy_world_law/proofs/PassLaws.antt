-- What the crates below promise of what replicas and clients pass on.
use Rattle.std.proofs.Common.{◌≡◌, ℕ, ◌<◌, ◌≤◌, ◌^◌, Bool, true, List, length, map}
use Rattle.std.specs.List.{AllByRecursion}
use Rattle.zy_base.specs.Machine.{Rules}
use Rattle.zy_base.specs.declared.counts.Counts.{Counts}
use Rattle.zy_base.specs.declared.ids.ClientId.{ClientId}
use Rattle.zy_base.specs.declared.ids.Party.{Party}
use Rattle.zy_base.specs.declared.ids.Party.TheVariants.{Replica, Client}
use Rattle.zy_base.specs.declared.ids.ReplicaId.{ReplicaId}
use Rattle.zy_base.specs.declared.ids.Stamp.{Stamp}
use Rattle.zy_base.specs.declared.step.Event.{Event}
use Rattle.zy_frames.specs.Frames as plain
use Rattle.zy_frames.specs.declared.frame.Frame.{Frame}
use Rattle.zy_law_steps.specs.Signs.{AreOfTexts, ArePassed, DoVerifiedPass, OfClient, OfFrame, OfHeard, OfState, OfTexts, OfTextsAlone, OfViewFrame}
use Rattle.zy_law_steps.specs.Spelled.{FitAll}
use Rattle.zy_seal.specs.Keys.{Keys}
use Rattle.zy_seal.specs.Sealing.{SealerState}
use Rattle.zy_table.specs.ClientRows.{ask, client_step}
use Rattle.zy_table.specs.ClientState.{ClientState, client_start, spoken_of}
use Rattle.zy_table.specs.Deeds.{said_from}
use Rattle.zy_table.specs.Sending.{outgoing_to}
use Rattle.zy_table.specs.State.{State, start_of}
use Rattle.zy_table.specs.Whole.{whole_step}
use Rattle.zy_vframes.specs.Parts as view_parts
use Rattle.zy_vframes.specs.declared.frame.ViewFrame.{ViewFrame}
use Rattle.zy_wire.specs.Fields.{IsParty}

abbrev pub Test : Type 0
Test = Party → List ℕ → Bool

pub record PassLaws {S : Type 0} (ok : S → Type 0) (R : Rules S) : Type 0 where
  pub start : (p : Test) (interval : ℕ) (me : ReplicaId) (counts : Counts) (keys : Keys) (sealer : SealerState) → sealer.me ≡ Replica me → OfState ok (OfTexts p) (start_of R interval me counts keys sealer)
  pub keeps : (p : Test) (s : State S) (event : Event) → IsParty s.sealer.me → OfState ok (OfTexts p) s → OfHeard (OfTexts p) event → FitAll (whole_step R s event).deeds.acts
      → ArePassed p s.sealer.me (said_from s.sealer.me 0 (whole_step R s event).deeds.acts) → OfState ok (OfTexts p) (whole_step R s event).state
  pub sends : (p : Test) (s : State S) (event : Event) → IsParty s.sealer.me → OfState ok (OfTexts p) s → OfHeard (OfTexts p) event → FitAll (whole_step R s event).deeds.acts
      → ArePassed p s.sealer.me (said_from s.sealer.me 0 (whole_step R s event).deeds.acts) → (to : List Party) → AreOfTexts p (outgoing_to to (whole_step R s event).deeds.sent)
  pub me : (s : State S) (event : Event) → (whole_step R s event).state.me ≡ s.me
  pub client_start : (p : Test) (me : ClientId) (counts : Counts) (keys : Keys) (sealer : SealerState) (stamp : Stamp) → sealer.me ≡ Client me → stamp.0 ≤ sealer.key.next → OfClient (OfTexts p) (client_start me counts keys sealer stamp)
  pub keeps_asked : (p : Test) (s : ClientState) (op : List ℕ) → s.me.0 < 2 ^ 32 → length op ≤ 1100 → OfClient (OfTexts p) s → ArePassed p (Client s.me) (map (spoken_of s.me) (ask s op).said) → OfClient (OfTexts p) (ask s op).state
  pub sends_asked : (p : Test) (s : ClientState) (op : List ℕ) → s.me.0 < 2 ^ 32 → length op ≤ 1100 → OfClient (OfTexts p) s → ArePassed p (Client s.me) (map (spoken_of s.me) (ask s op).said) → (to : List Party) → AreOfTexts p (outgoing_to to (ask s op).sent)
  pub client_keeps : (p : Test) (s : ClientState) (event : Event) → OfClient (OfTexts p) s → OfHeard (OfTexts p) event → OfClient (OfTexts p) (client_step s event).state
  pub client_sends : (p : Test) (s : ClientState) (event : Event) → OfClient (OfTexts p) s → OfHeard (OfTexts p) event → (to : List Party) → AreOfTexts p (outgoing_to to (client_step s event).sent)
  pub plain_parts : (p : Test) (frame : Frame) → OfFrame (OfTexts p) frame → AllByRecursion (λ part. p part.by part.text ≡ true) (plain.parts_of frame)
  pub view_parts : (p : Test) (frame : ViewFrame) → OfViewFrame (OfTexts p) frame → AllByRecursion (λ part. p part.by part.text ≡ true) (view_parts.parts_of frame)

-- what they promise of what replicas and clients keep
pub record KeepLaws {S : Type 0} (ok : S → Type 0) (R : Rules S) : Type 0 where
  pub start : (p : Test) (interval : ℕ) (me : ReplicaId) (counts : Counts) (keys : Keys) (sealer : SealerState) → sealer.me ≡ Replica me → OfState ok (OfTextsAlone p) (start_of R interval me counts keys sealer)
  pub keeps : (p : Test) (s : State S) (event : Event) → OfState ok (OfTextsAlone p) s → DoVerifiedPass p s.keys event → ArePassed p s.sealer.me (said_from s.sealer.me 0 (whole_step R s event).deeds.acts)
      → OfState ok (OfTextsAlone p) (whole_step R s event).state
  pub me : (s : State S) (event : Event) → (whole_step R s event).state.me ≡ s.me
  pub client_start : (p : Test) (me : ClientId) (counts : Counts) (keys : Keys) (sealer : SealerState) (stamp : Stamp) → sealer.me ≡ Client me → stamp.0 ≤ sealer.key.next → OfClient (OfTextsAlone p) (client_start me counts keys sealer stamp)
  pub keeps_asked : (p : Test) (s : ClientState) (op : List ℕ) → OfClient (OfTextsAlone p) s → ArePassed p (Client s.me) (map (spoken_of s.me) (ask s op).said) → OfClient (OfTextsAlone p) (ask s op).state
  pub client_keeps : (p : Test) (s : ClientState) (event : Event) → OfClient (OfTextsAlone p) s → DoVerifiedPass p s.keys event → OfClient (OfTextsAlone p) (client_step s event).state
