-- What holds of every client.
use Rattle.std.specs.Prelude.{◌≡◌, ◌≤◌, ◌+◌, ◌^◌, List, length}
use Rattle.std.specs.List.{AllByRecursion}
use Rattle.std.specs.Option.{ForSome}
use Rattle.zy_base.specs.declared.ids.Party.TheVariants.{Client}
use Rattle.zy_wire.specs.Fields.{FitsOptional}
use Rattle.zy_parts.specs.Signing.{IsSignedInRange}
use Rattle.zy_parts.specs.Statements.{IsAskInRange, IsOrderInRange, IsSpecInRange}
use Rattle.zy_parts.specs.declared.signed.Signed.{Signed}
use Rattle.zy_parts.specs.declared.statements.Ask.{Ask}
use Rattle.zy_parts.specs.declared.statements.Order.{Order}
use Rattle.zy_table.specs.Sending.{CanBeSent}
use Rattle.zy_table.specs.declared.client.Response.{Response}
use Rattle.zy_table.specs.declared.deeds.Sent.{Sent}
use Rattle.zy_table.specs.ClientState.{ClientState, signs_left}

-- a response that can stand in a certificate, and its order in a proof of misbehaviour
pub record IsKeepable (r : Response) : Type 0 where
  pub spec : IsSignedInRange IsSpecInRange r.spec
  pub order : FitsOptional (IsSignedInRange IsOrderInRange) r.order

pub record IsReady (s : ClientState) : Type 0 where
  -- it signs as itself
  pub signer : s.sealer.me ≡ Client s.me
  -- each request raises the stamp by one and spends a signature, of which a key gives at most 1,048,576
  pub stamp : s.stamp.0 + signs_left s ≤ 2 ^ 61 + 2 ^ 20
  pub waiting : ForSome s.waiting (IsSignedInRange IsAskInRange)
  pub responses : length s.responses ≡ s.counts.n
  pub kept : AllByRecursion (λ slot. ForSome slot IsKeepable) s.responses

-- two orders that can be sent as evidence
abbrev pub IsEvidence : Signed Order × Signed Order → Type 0
IsEvidence orders = IsSignedInRange IsOrderInRange orders.0 × IsSignedInRange IsOrderInRange orders.1

-- what a step sends and signs can be spelled
pub record AreInRange (sent : List Sent) (said : List Ask) : Type 0 where
  pub frames : AllByRecursion (λ s. CanBeSent s.frame) sent
  pub asks : AllByRecursion IsAskInRange said
