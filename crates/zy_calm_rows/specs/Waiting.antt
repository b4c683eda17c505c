-- What a client keeps in a calm run while it waits, as far as its rows read it.
use Rattle.std.specs.Prelude.{◌≡◌, ℕ, ◌≤◌, suc, false, is_some, count_by, length, List, [], ◌∷◌, Option, Some, None, Ok}
use Rattle.zy_base.specs.declared.ids.Party.TheVariants.{Replica}
use Rattle.zy_chain.specs.Answers.{Answers, digest_of_answers}
use Rattle.zy_chain.specs.Entries.{digest_of_entry}
use Rattle.zy_cert.specs.Certificates.{certified}
use Rattle.zy_cert.specs.Equal.{same_local, same_spec}
use Rattle.zy_cert.specs.Points.{point_of_spec}
use Rattle.zy_cert.specs.Signers.{has_other, has_signer}
use Rattle.zy_parts.specs.Statements.{entry_of}
use Rattle.zy_parts.specs.declared.signed.Signed.{Signed}
use Rattle.zy_parts.specs.declared.statements.Ask.{Ask}
use Rattle.zy_parts.specs.declared.statements.Local.{Local}
use Rattle.zy_parts.specs.declared.statements.Order.{Order}
use Rattle.zy_parts.specs.declared.statements.Spec.{Spec}
use Rattle.zy_table.specs.ClientState.{ClientState}
use Rattle.zy_table.specs.declared.client.Commit.{Commit}
use Rattle.zy_table.specs.declared.client.Response.{Response}

-- The one answer that all replicas give to a request, in the first view: what it says, the answers, and the primary's order.
pub record Answered : Type 0 where
  pub spec : Spec
  pub reply : Answers
  pub order : Signed Order

-- it answers this request of this client, and its order is that of the request
pub record IsAnswer (c : ClientState) (ask : Signed Ask) (a : Answered) : Type 0 where
  pub replicas : 1 ≤ c.counts.n
  pub view : a.spec.view ≡ record { 0 = 0 }
  pub client : a.spec.client ≡ c.me
  pub stamp : a.spec.stamp ≡ ask.stmt.stamp
  pub reply : a.spec.reply ≡ digest_of_answers a.reply
  pub by : a.order.by ≡ Replica (record { 0 = 0 })
  pub ordered : a.order.stmt ≡ record { view = a.spec.view; place = a.spec.place; head = a.spec.head; request = digest_of_entry (entry_of c.me ask.stmt) }

-- a response of the replica with this number is that answer
pub record IsOf (a : Answered) (id : ℕ) (r : Response) : Type 0 where
  pub by : r.spec.by ≡ Replica (record { 0 = id })
  pub stmt : r.spec.stmt ≡ a.spec
  pub reply : r.reply ≡ a.reply
  pub order : r.order ≡ Some a.order

-- in the slots from a number on nothing else is kept
abbrev pub AreOf : Answered → ℕ → List (Option Response) → Type 0
AreOf a id [] = Unit {0}
AreOf a id (None ∷ slots) = AreOf a (suc id) slots
AreOf a id (Some r ∷ slots) = IsOf a id r × AreOf a (suc id) slots

-- It waits for this request, and keeps so many responses, each of them the answer.
pub record Awaits (c : ClientState) (ask : Signed Ask) (a : Answered) (number : ℕ) : Type 0 where
  pub waiting : c.waiting ≡ Some ask
  pub answer : IsAnswer c ask a
  pub slots : length c.responses ≡ c.counts.n
  pub kept : AreOf a 0 c.responses
  pub count : count_by is_some c.responses ≡ number
  pub commit : c.commit ≡ None

-- responses that make a certificate of the answer, the first of them first
pub record IsCertificateOf (a : Answered) (count : ℕ) (specs : List (Signed Spec)) : Type 0 where
  pub first : Signed Spec
  pub others : List (Signed Spec)
  pub parts : specs ≡ first ∷ others
  pub stmt : first.stmt ≡ a.spec
  pub certified : certified same_spec point_of_spec count specs ≡ Ok (point_of_spec a.spec)

-- the local commit to the answer
abbrev pub local_to : Answered → Local
local_to a = record { view = a.spec.view; place = a.spec.place; head = a.spec.head }

-- what is kept of the certificate that was sent, with these local commits to it
abbrev pub commit_with : ℕ → Answered → List (Signed Local) → Commit
commit_with wanted a votes = record { spec = a.spec; reply = a.reply; locals = record { count = wanted; votes = votes } }

-- a local commit to the answer, beside those that are counted
pub record IsFresh (a : Answered) (votes : List (Signed Local)) (vote : Signed Local) : Type 0 where
  pub stmt : vote.stmt ≡ local_to a
  pub by : has_signer vote.by votes ≡ false
  pub same : has_other same_local vote.stmt votes ≡ false
