use Rattle.zy_slots.proofs.SlotsLemmas.{needs_live, some_value, value_read}
use Rattle.zy_slots.proofs.slots.Slots.value.Goals as goal

pub value_in-requires : goal.value_in-requires
value_in-requires g c =
    record {
      place = (needs_live _ _ _ _ _ c.self.invariant _ c.self.view_is c.args.id.0 c.requires).within;
      some = some_value _ _ _ _ _ c.self.invariant _ c.self.view_is c.args.id.0 c.requires;
    }

pub returns : goal.returns
returns g c = value_read _ _ _ _ _ c.self.invariant _ c.self.view_is c.args.id.0 c.value_in.result.now c.value_in.ensures
