use Rattle.std.proofs.Common.{refl}
use Rattle.std.proofs.lemmas.Option.{slice_get_read}
use Rattle.zy_world_setup.proofs.SaidLemmas.{says_at, says_nothing, none_at}
use Rattle.zy_world_setup.proofs.said.add_at.Goals as goal

pub returns-in_ok-add_in : goal.returns-in_ok-add_in
returns-in_ok-add_in c =
    let seats = c.args.seats.now in
    says_at _ seats.items c.args.at c.in-Some.seat.now _
    (slice_get_read seats.items seats.len c.args.at c.in-Some.seat.now seats.ok.0 (c.in-Some.ensures.variant.0 refl) c.in-Some.ensures.value)
    c.in_ok-add_in.ensures

pub returns-in_default : goal.returns-in_default
returns-in_default c =
    let seats = c.args.seats.now in
    says_nothing _ seats.items c.args.at (none_at seats.items c.args.at c.in_default.ensures.item.3)
