-- What lets a replica take up the history with which a view begins.
use Rattle.std.specs.Prelude.{◌≡◌, ◌≤◌, ◌%◌, nat_le, nat_lt, true, filter, All}
use Rattle.zy_base.specs.Machine.{Rules}
use Rattle.zy_chain.specs.Stretch.{end_of}
use Rattle.zy_parts.specs.Reports.{IsToldInRange}
use Rattle.zy_parts.specs.declared.reports.Told.{Told}
use Rattle.zy_vframes.specs.declared.frame.ViewCert.{ViewCert}
use Rattle.zy_vframes.specs.declared.frame.ViewFrame.TheVariants as frames
use Rattle.zy_check.specs.Board.{IsProof, start_of, with_stable}
use Rattle.zy_exec.specs.Kept.{Kept, last_place}
use Rattle.zy_evidence.specs.Reading.{stretch_of}
use Rattle.zy_change.specs.declared.kept.Chosen.{Chosen}
use Rattle.zy_change.specs.Views.{without_waiting}
use Rattle.zy_table.specs.Sending.{CanBeSent}
use Rattle.zy_table.specs.declared.deeds.AnyFrame.TheVariants as sent
use Rattle.zy_table.specs.State.{State}
use Rattle.zy_table.specs.Adopting.{taken_over}
use Rattle.zy_table.specs.Beginning.{active_by, with_history}
use Rattle.zy_table.specs.Fetching.{installed}
use Rattle.zy_replica_adopt.specs.Meeting.{Meets}
use Rattle.zy_replica_state.specs.Ready.{IsReady}
use Rattle.zy_chain.specs.Entries.{IsOfClients}

-- The report can be executed up to the choice from where it meets the own history; where it is stable further on, what is
-- taken up comes to its checkpoint, which is proven; and the replica is ready again once the view began.
pub record CanAdopt {S : Type 0} (R : Rules S) (s : State S) (cert : ViewCert) (chosen : Chosen) (told : Told) : Type 0 where
  pub range : IsToldInRange told
  pub clients : All IsOfClients told.entries
  pub end : chosen.place.0 ≤ end_of (stretch_of told)
  pub meets : Meets (stretch_of told) chosen.place.0 s.kept
  pub above : nat_lt s.board.stable.place.0 told.stable_place.0 ≡ true → (taken_over (stretch_of told) chosen.place.0 s.kept).base.place ≤ told.stable_place.0
  pub within : nat_lt s.board.stable.place.0 told.stable_place.0 ≡ true → told.stable_place.0 ≤ last_place (taken_over (stretch_of told) chosen.place.0 s.kept)
  pub multiple : nat_lt s.board.stable.place.0 told.stable_place.0 ≡ true → told.stable_place.0 % s.board.interval ≡ 0
  pub proof : nat_lt s.board.stable.place.0 told.stable_place.0 ≡ true → IsProof told.stable_place.0 told.checks
  pub ready : CanBeSent (sent.View (frames.ViewCert cert)) → IsReady (active_by cert chosen (with_history R told chosen.place s))

-- The report can be executed up to the choice from the snapshot of its own stable checkpoint, which is proven, and what is
-- kept of checkpoints can begin anew with it; then the replica is ready again.
pub record CanInstall {S : Type 0} (R : Rules S) (s : State S) (cert : ViewCert) (chosen : Chosen) (told : Told) (k : Kept S) : Type 0 where
  pub range : IsToldInRange told
  pub clients : All IsOfClients told.entries
  pub end : chosen.place.0 ≤ end_of (stretch_of told)
  pub meets : Meets (stretch_of told) chosen.place.0 k
  pub least : 4 ≤ k.interval
  pub most : k.interval ≤ 32
  pub multiple : told.stable_place.0 % k.interval ≡ 0
  pub proof : IsProof told.stable_place.0 told.checks
  pub kept : (installed R k.base told s).kept ≡ k
  pub begun : active_by cert chosen (record s {
    views = without_waiting s.views;
    kept = taken_over (stretch_of told) chosen.place.0 k;
    board = with_stable (start_of (taken_over (stretch_of told) chosen.place.0 k).interval told.state) told.checks;
    locals = filter (λ said. nat_le told.stable_place.0 said.stmt.place.0) s.locals;
  }) ≡ active_by cert chosen (with_history R told chosen.place (installed R k.base told s))
  pub ready : CanBeSent (sent.View (frames.ViewCert cert)) → IsReady (active_by cert chosen (with_history R told chosen.place (installed R k.base told s)))
