-- What a `bind` does to what was asked of a link.
use Rattle.std.specs.Prelude.{ℕ, Option, Some}
use Rattle.zy_edge.specs.Faults.{raised}
use Rattle.zy_edge.specs.Link.{Mail}
use Rattle.zy_edge.specs.declared.link.binding.Address.{Address}
use Rattle.zy_edge.specs.declared.link.binding.Binding.{Binding}

-- where a link stands: how many receives were made, and its mail, where that is told
pub record Standing : Type 0 where
  pub receives : ℕ
  pub mail : Option Mail

-- how often an address was asked for, which one last, and where the link stood then
pub record BindCalls : Type 0 where
  pub times : ℕ
  pub last : Option Address
  pub stood : Standing

-- one address more was asked for, of a link that stands there
abbrev pub after_binding : Address → Standing → BindCalls → BindCalls
after_binding address standing before = record { times = raised before.times; last = Some address; stood = standing }

-- as a link keeps it, with its mail as it was then
abbrev pub calls_of : Binding → Option Mail → BindCalls
calls_of kept mail = record { times = kept.times; last = kept.last; stood = record { receives = kept.receives; mail = mail } }
