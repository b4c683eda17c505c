use Rattle.std.proofs.Common.{◌≡◌, length}
use Rattle.zy_slots.specs.declared.slot.Kind.TheVariants.{Chain}
use Rattle.zy_slots.specs.Columns.{slot_at, link_of}
use Rattle.zy_slots.proofs.ColumnLemmas.{out_of_order, out_of_chain, beside_piles}
use Rattle.zy_slots.proofs.cells.take_out.Goals as goal

pub detach_chain-requires-clause-link : goal.detach_chain-requires-clause-link
detach_chain-requires-clause-link g c =
    let link : link_of Chain (slot_at c.detach.new.slots.items c.args.place) ≡ link_of Chain (slot_at c.args.slots.now.items c.args.place) = c.detach.ensures.rest.others Chain (λ same. cc) c.args.place in
    let many : length c.detach.new.slots.items ≡ length c.args.slots.now.items = c.detach.ensures.rest.as_many in
    rw (link, many) c.requires.chain

pub returns-clause-order : goal.returns-clause-order
returns-clause-order g c = out_of_order _ _ _ _ _ _ c.detach.ensures.links c.detach_chain.ensures.rest

pub returns-clause-chain : goal.returns-clause-chain
returns-clause-chain g c =
    rw (← c.bucket_at-bucket.ensures) (out_of_chain _ _ _ _ _ _ c.detach.ensures.rest c.detach_chain.ensures.links)

pub returns-clause-rest : goal.returns-clause-rest
returns-clause-rest g c =
    rw (← c.bucket_at-bucket.ensures) (beside_piles _ _ _ _ _ _ c.detach.ensures.rest c.detach_chain.ensures.rest c.detach_chain.ensures.chains)
