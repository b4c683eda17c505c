-- What the clients' crate promises of what a client holds.
use Rattle.std.proofs.Common.{◌≡◌, List, ℕ, Some, None}
use Rattle.zy_base.specs.declared.counts.Counts.{Counts}
use Rattle.zy_base.specs.declared.ids.ClientId.{ClientId}
use Rattle.zy_base.specs.declared.ids.Stamp.{Stamp}
use Rattle.zy_base.specs.declared.step.Event.{Event}
use Rattle.zy_client.specs.Held.{Holds, CommitComes, IsComplete}
use Rattle.zy_parts.specs.declared.signed.Signed.{Signed}
use Rattle.zy_parts.specs.declared.statements.Ask.{Ask}
use Rattle.zy_seal.specs.Keys.{Keys}
use Rattle.zy_seal.specs.Sealing.{SealerState}
use Rattle.zy_table.specs.ClientRows.{ask, client_step}
use Rattle.zy_table.specs.ClientState.{ClientState, client_start}
use Rattle.zy_table.specs.declared.client.Commit.{Commit}

pub record HeldLaw : Type 0 where
  pub starts : (me : ClientId) (counts : Counts) (keys : Keys) (sealer : SealerState) (stamp : Stamp) → Holds (client_start me counts keys sealer stamp)
  pub asks : (s : ClientState) (op : List ℕ) → Holds s → Holds (ask s op).state
  pub steps : (s : ClientState) (event : Event) → Holds s → Holds (client_step s event).state
  pub commits : (s : ClientState) (event : Event) (commit : Commit) → (client_step s event).state.commit ≡ Some commit → CommitComes s event commit
  pub completes : (s : ClientState) (event : Event) (waiting : Signed Ask) → Holds s → s.waiting ≡ Some waiting → (client_step s event).state.waiting ≡ None → IsComplete s event (client_step s event).state waiting
