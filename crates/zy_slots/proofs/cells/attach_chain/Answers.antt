use Rattle.std.proofs.Common.{arith}
use Rattle.zy_slots.proofs.ColumnLemmas.{ends_at-set, ends_at-set_other, ends_at_read}
use Rattle.zy_slots.proofs.cells.attach_chain.Goals as goal

pub returns-clause-links : goal.returns-clause-links
returns-clause-links g c =
    let read = ends_at_read c.args.chains.now c.args.bucket c.index-chains-bucket.result (omega arith) in
    let written = ends_at-set c.args.chains.now c.args.bucket c.attach.new.ends (omega arith) in
    rw (written, ← read) c.attach.ensures.links

pub returns-clause-chains : goal.returns-clause-chains
returns-clause-chains g c = λ other apart. ends_at-set_other c.args.chains.now c.args.bucket c.attach.new.ends other apart
