-- Worlds in which all that correct parties keep is backed: its signers said it, or may have.
use Rattle.std.specs.Prelude.{◌≡◌, ℕ, Bool, true, false, List, Some}
use Rattle.zy_base.specs.declared.ids.Party.{Party}
use Rattle.zy_base.specs.declared.ids.Party.TheVariants as parties
use Rattle.zy_base.specs.declared.ids.ReplicaId.{ReplicaId}
use Rattle.zy_change.specs.Views.{Views, is_hated_by, own_view}
use Rattle.zy_law_steps.specs.Signs.{OfClient, OfState, OfTextsAlone}
use Rattle.zy_parts.specs.Numbers as numbers
use Rattle.zy_parts.specs.Signing.{text_of}
use Rattle.zy_parts.specs.Statements.{hate_fields}
use Rattle.zy_world_law.specs.Faithful.{PassesSaid}
use Rattle.zy_world_law.specs.Honest.{is_unsaid}
use Rattle.zy_world_law.specs.World.{World, Replica, Client, replica_at, client_at, texts_said}

-- the text with which a replica hates the view that another is in
abbrev pub hate_text : ReplicaId → Views → List ℕ
hate_text by v = text_of numbers.hate hate_fields (parties.Replica by) (record { view = record { 0 = own_view v } })

-- Whatever test all passes that was said, or that a liar may have said, the signer and the text of each signed statement that a correct
-- party keeps pass it. Each hate that a correct replica counts was said by the replica for which it is counted, or that lies.
pub record IsKeptBacked {S : Type 0} (is_state : S → Type 0) (w : World S) : Type 0 where
  pub replicas : (test : Party → List ℕ → Bool) → PassesSaid w test → (id : ℕ) (x : Replica S) → replica_at w id ≡ Some x → OfState is_state (OfTextsAlone test) x.state
  pub clients : (test : Party → List ℕ → Bool) → PassesSaid w test → (id : ℕ) (x : Client) → client_at w id ≡ Some x → OfClient (OfTextsAlone test) x.state
  pub hates : (id : ℕ) (x : Replica S) → replica_at w id ≡ Some x → (by : ReplicaId) → is_hated_by x.state.views (parties.Replica by) ≡ true
      → is_unsaid (texts_said w (parties.Replica by)) (hate_text by x.state.views) ≡ false
