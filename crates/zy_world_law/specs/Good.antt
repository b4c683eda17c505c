-- Good worlds: what honest events keep, and from which safety follows.
use Rattle.std.specs.Prelude.{◌≡◌, ◌⊎◌, ℕ, ◌%◌, ◌<◌, ◌^◌, length, Some, None, IfSome, Contains, map}
use Rattle.std.specs.List.{AllByRecursion}
use Rattle.zy_base.specs.Machine.{Rules}
use Rattle.zy_base.specs.declared.ids.Party.TheVariants.{Replica}
use Rattle.zy_base.specs.declared.ids.ReplicaId.{ReplicaId}
use Rattle.zy_client.specs.Held.{Holds}
use Rattle.zy_law_views.specs.Steps.{IsWorldOf}
use Rattle.zy_law.specs.Completed.{IsCompleted}
use Rattle.zy_law.specs.Conduct.{IsConduct}
use Rattle.zy_law.specs.Said.{IsBacked}
use Rattle.zy_law.specs.World as law
use Rattle.zy_law_normal.specs.Acts.{spec_statement}
use Rattle.zy_law_normal.specs.Tied.{IsVouchedBy}
use Rattle.zy_parts.specs.Numbers as numbers
use Rattle.zy_parts.specs.Signing.{text_of}
use Rattle.zy_parts.specs.Statements.{order_fields, spec_fields}
use Rattle.zy_parts.specs.declared.signed.Signed.{Signed}
use Rattle.zy_parts.specs.declared.statements.Ask.{Ask}
use Rattle.zy_parts.specs.declared.statements.Order.{Order}
use Rattle.zy_parts.specs.declared.statements.Spec.{Spec}
use Rattle.zy_table.specs.ClientRows.{kept_of}
use Rattle.zy_table.specs.declared.client.Commit.{Commit}
use Rattle.zy_table.specs.declared.client.Response.{Response}
pub use Rattle.zy_law_views.specs.Texts.{IsKept}
use Rattle.zy_law_steps.specs.Spelled.{IsSpelled}
use Rattle.zy_law_views.specs.Rows.{IsReady}
use Rattle.zy_law_views.specs.Work.{IsAtWork}
use Rattle.zy_world_law.specs.Events.{history_of}
use Rattle.zy_world_law.specs.Safe.{completion_of}
use Rattle.zy_world_law.specs.Seen.{seen}
use Rattle.zy_world_law.specs.Setup.{IsSetup, keys_of}
use Rattle.zy_world_law.specs.World.{World, Client, Completed, Texts, replica_at, client_at}
use Rattle.zy_world_law.specs.World as world

-- A correct replica is tied to what it said and where it stood, can work there, and what it keeps can be spelled.
pub record IsTied {S : Type 0} (R : Rules S) (w : World S) (id : ℕ) (x : world.Replica S) : Type 0 where
  pub ready : IsReady R w.setup.interval (seen R w) id x.state (history_of x.past)
  pub works : IsAtWork w.setup.interval (seen R w) id x.state
  pub keys : x.state.keys ≡ keys_of w.setup
  pub spelled : IsSpelled x.state

-- An order is of the primary of its view, and one that this said, unless that lies.
pub record IsOrderBacked {S : Type 0} (w : World S) (order : Signed Order) : Type 0 where
  pub signer : ReplicaId
  pub by : order.by ≡ Replica signer
  pub leads : order.stmt.view.0 % w.setup.counts.n ≡ signer.0
  pub said : (replica_at w signer.0 ≡ None) ⊎ ((x : world.Replica S) × (replica_at w signer.0 ≡ Some x) × Contains (map (λ remark. remark.text) x.said) (text_of numbers.order order_fields (Replica signer) order.stmt))

-- a response is one that its replica said, unless that lies, and its reply is kept
pub record IsBackedBy {S : Type 0} (w : World S) (id : ℕ) (r : Response) : Type 0 where
  pub within : id < w.setup.counts.n
  pub said : (replica_at w id ≡ None) ⊎ ((x : world.Replica S) × (replica_at w id ≡ Some x) × Contains (map (λ remark. remark.text) x.said) (text_of numbers.spec spec_fields (Replica (record { 0 = id })) r.spec.stmt))
  pub reply : IsKept w.texts r.reply
  -- and so is the order that came with it
  pub ordered : IfSome r.order (IsOrderBacked w)
  -- it can be spelled, if its client can
  pub spelled : r.spec.stmt.client.0 < 2 ^ 32 → spec_fields.Fits r.spec.stmt

-- the local commit to a response
abbrev pub local_to : Spec → law.Statement
local_to spec = law.Statement.Local spec.view.0 (record { place = spec.place.0; head = spec.head })

-- A certificate that a client sent is backed and its reply is kept, and each local commit that was counted is one that its
-- replica said, unless that lies.
pub record IsCommitBacked (u : law.World) (texts : Texts) (c : Commit) : Type 0 where
  pub certified : IsBacked u u.counts.cert (spec_statement c.spec)
  pub reply : IsKept texts c.reply
  pub counted : AllByRecursion (λ vote. IsVouchedBy u (local_to c.spec) vote.by) c.locals.votes

-- what a correct client holds is backed
pub record IsClientTied {S : Type 0} (R : Rules S) (w : World S) (id : ℕ) (x : Client) : Type 0 where
  pub me : x.state.me.0 ≡ id
  pub counts : x.state.counts ≡ w.setup.counts
  pub keys : x.state.keys ≡ keys_of w.setup
  pub holds : Holds x.state
  pub backed : (number : ℕ) (r : Response) → kept_of x.state number ≡ Some r → IsBackedBy w number r
  pub committed : (waiting : Signed Ask) (c : Commit) → x.state.waiting ≡ Some waiting → x.state.commit ≡ Some c → IsCommitBacked (seen R w) w.texts c

-- a completion is of a correct client and fixed, and its reply is kept
pub record IsDone {S : Type 0} (R : Rules S) (w : World S) (c : Completed) : Type 0 where
  pub client : Client
  pub correct : client_at w c.client.0 ≡ Some client
  pub completed : IsCompleted (seen R w) (completion_of c)
  pub reply : IsKept w.texts c.done.reply

pub record IsGood {S : Type 0} (R : Rules S) (w : World S) : Type 0 where
  pub setup : IsSetup w.setup
  -- there is a seat for each replica and each client
  pub replicas : length w.replicas ≡ w.setup.counts.n
  pub clients : length w.clients ≡ w.setup.clients
  -- each correct replica keeps the rules of conduct to the letter
  pub conduct : IsConduct (seen R w)
  pub open conduct use *
  -- what each correct history leads to is kept
  pub kept : IsWorldOf R w.setup.interval (seen R w) w.texts
  pub tied : (id : ℕ) (x : world.Replica S) → replica_at w id ≡ Some x → IsTied R w id x
  pub client_tied : (id : ℕ) (x : Client) → client_at w id ≡ Some x → IsClientTied R w id x
  pub done : AllByRecursion (IsDone R w) w.done
