use Rattle.std.proofs.Common.{arith}
use Rattle.zy_wire.proofs.FramingLaws.{answer_takes, answer_in_range, answer_again}
use Rattle.zy_wire.proofs.framed.decode.Goals as goal

pub returns-clause-found : goal.returns-clause-found
returns-clause-found g c = answer_takes g.F.Framed.kind_of g.F.Framed.fields_of g.F.Framed.fits g.F.Framed.in_range g.F.Framed.fields_at g.met.F.Framed.laws c.read.result c.args.bytes.now (λ i. omega (arith, c.type_inv.bytes i)) c.read.ensures

pub returns-clause-in_range : goal.returns-clause-in_range
returns-clause-in_range g c = answer_in_range g.F.Framed.kind_of g.F.Framed.fields_of g.F.Framed.fits g.F.Framed.in_range g.F.Framed.fields_at g.met.F.Framed.laws c.read.result c.args.bytes.now (λ i. omega (arith, c.type_inv.bytes i)) c.read.ensures

pub returns-clause-only : goal.returns-clause-only
returns-clause-only g c = answer_again g.F.Framed.kind_of g.F.Framed.fields_of g.F.Framed.fits g.F.Framed.in_range g.F.Framed.fields_at g.met.F.Framed.laws c.read.result c.args.bytes.now c.read.ensures
