use Rattle.std.proofs.Common.{Some, true}
use Rattle.zy_slots.proofs.CallLemmas.{Inserts}
use Rattle.zy_slots.proofs.SlotsLemmas.{free_within, needs_free, needs_in, needs_put, inserted_linked, inserted_view, fresh_now}
use Rattle.zy_slots.proofs.slots.Slots.insert.Given.{Over}
use Rattle.zy_slots.proofs.slots.Slots.insert.Goals as goal

pub take_free-requires : goal.take_free-requires
take_free-requires g c = record { first = (free_within _ _ _ _ _ c.self.invariant).1; link = needs_free _ _ _ _ _ c.self.invariant }

pub hold-requires : goal.hold-requires
hold-requires g c = (needs_in _ _ _ _ _ c.self.invariant _ _ _ c.in-Ok.ensures.ok).within

pub put_in-requires : goal.put_in-requires
put_in-requires g c =
    let put = needs_put c.take_free.new.slots.items c.hold.new.slots.items c.self.inside.order c.self.inside.chains c.in-Ok.place (record { value = Some c.args.value; bucket = c.args.bucket; live = true }) c.args.bucket c.none.result c.none-2.result c.ends_of.result
    (needs_in _ _ _ _ _ c.self.invariant _ _ _ c.in-Ok.ensures.ok) c.hold.ensures c.requires c.requires c.none.ensures c.none-2.ensures c.ends_of.ensures in
    record { place = put.within; fits = put.few; bucket = put.fits; order = put.order; chain = put.chain }

pub invariant_of-self : goal.invariant_of-self
invariant_of-self g c = rw (c.in-Err.ensures.slots, c.in-Err.ensures.free) c.self.invariant

pub returns-in-Err-clause-err : goal.returns-in-Err-clause-err
returns-in-Err-clause-err g c = rw c.in-Err.ensures.slots c.self.view_is

steps : (g : Over) (c : goal.After-put_in g)
    → Inserts c.self.inside.slots.items c.self.inside.order c.self.inside.chains c.self.inside.free c.put_in.new.slots.items c.put_in.new.order c.put_in.new.chains c.take_free.new.free (record { id = c.in-Ok.place; bucket = c.args.bucket; value = c.args.value })
steps g c =
    record {
      found = c.take_free.new.slots.items;
      filled = c.hold.new.slots.items;
      taken = c.in-Ok.ensures.ok;
      held = c.hold.ensures;
      into_order = rw c.none.ensures at c.put_in.ensures.order;
      into_chain = rw (c.ends_of.ensures, c.none-2.ensures) at c.put_in.ensures.chain;
      in_piles = c.put_in.ensures.rest;
    }

pub invariant_of-self-2 : goal.invariant_of-self-2
invariant_of-self-2 g c = inserted_linked _ _ _ _ _ c.self.invariant _ _ _ _ _ c.requires (steps g c)

pub returns : goal.returns
returns g c =
    record {
      ok = inserted_view _ _ _ _ _ c.self.invariant _ c.self.view_is _ _ _ _ _ c.requires (steps g c);
      fresh = fresh_now _ _ _ _ _ c.self.invariant _ c.self.view_is _ _ _ c.in-Ok.ensures.ok;
      err = tt;
      value = tt;
    }
