-- A client that begins with a key that has a signature left may ask.
use Rattle.std.proofs.Common.{◌+◌, ◌-◌, ◌<◌, ◌≤◌, refl, arith}
use Rattle.zy_base.specs.declared.ids.ClientId.{ClientId}
use Rattle.zy_base.specs.declared.ids.Stamp.{Stamp}
use Rattle.zy_group.specs.declared.members.AskGroup.{AskGroup}
use Rattle.zy_lms.specs.KeyState.{KeyState}
use Rattle.zy_seal.specs.Sealing.{signatures_by}
use Rattle.zy_top_hosting.specs.Calls.{MayAsk}
use Rattle.zy_top_hosting.specs.Files.{client_of}

pub may_start : (id : ClientId) (group : AskGroup) (stamp : Stamp) (key : KeyState) → key.next + 1 ≤ signatures_by key.height → MayAsk (client_of id group stamp key)
may_start id group stamp key some = record { free = refl; left = (let e : 0 < signatures_by key.height - key.next = omega (arith, some) in e) }
