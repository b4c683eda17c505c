-- What a calm replica makes of what it hears.
use Rattle.std.specs.Prelude.{List, None}
use Rattle.zy_admit.specs.Judging.{ordered_entry}
use Rattle.zy_admit.specs.Orders.{with_order}
use Rattle.zy_base.specs.Machine.{Rules}
use Rattle.zy_base.specs.declared.ids.ClientId.{ClientId}
use Rattle.zy_base.specs.declared.step.Answer.TheVariants.{Taken}
use Rattle.zy_chain.specs.Entries.{digest_of_entry}
use Rattle.zy_chain.specs.declared.entry.Entry.{Entry}
use Rattle.zy_exec.specs.Replay.{Point, known_of}
use Rattle.zy_frames.specs.declared.frame.OrderFrame.{OrderFrame}
use Rattle.zy_parts.specs.declared.signed.Signed.{Signed}
use Rattle.zy_parts.specs.declared.statements.Ask.{Ask}
use Rattle.zy_parts.specs.declared.statements.Order.{Order}
use Rattle.zy_parts.specs.declared.statements.Spec.{Spec}
use Rattle.zy_parts.specs.declared.statements.Local.{Local}
use Rattle.zy_table.specs.Commits.{say_local}
use Rattle.zy_table.specs.Deeds.{Going, Outcome, ends, begin}
use Rattle.zy_table.specs.Gathering.{with_certificate}
use Rattle.zy_table.specs.Requests.{sealed_order, ordered}
use Rattle.zy_table.specs.Running.{executed, respond, sealed_spec, spec_of}
use Rattle.zy_table.specs.State.{State}

-- what a response says to an entry that is run next at a point
abbrev pub calm_spec : {S : Type 0} → Rules S → Point S → Entry → Spec
calm_spec R p e = spec_of 0 e (known_of R p e)

-- what an order says of an entry that is run next at a point
abbrev pub calm_order : {S : Type 0} → Rules S → Point S → Entry → Order
calm_order R p e =
    record {
      view = record { 0 = 0 };
      place = (known_of R p e).place;
      head = (known_of R p e).head;
      request = digest_of_entry e;
    }

-- an order is run: its entry is executed, and its client gets the response
abbrev pub run_calmly : {S : Type 0} → Rules S → Point S → OrderFrame → Going S → Going S
run_calmly R p o g =
    let e = ordered_entry o in
    let after = executed R e g in
    respond R o.order (sealed_spec after.state (calm_spec R p e)) (known_of R p e).reply after

-- of a request, at the primary
abbrev pub ordered_calmly : {S : Type 0} → Rules S → Point S → State S → Signed Ask → Outcome S
ordered_calmly R p s ask = ends Taken (run_calmly R p (sealed_order R s ask) (ordered R s ask))

-- of an order
abbrev pub taken_calmly : {S : Type 0} → Rules S → Point S → State S → OrderFrame → Outcome S
taken_calmly R p s o = ends Taken (run_calmly R p o (begin (record s { orders = with_order s.orders o; hole = None })))

-- of a certificate for the last place: it is kept, and its local commit is said
abbrev pub committed_calmly : {S : Type 0} → Rules S → State S → List (Signed Spec) → ClientId → Local → Outcome S
committed_calmly R s specs client local = ends Taken (say_local R client local (with_certificate s local.place specs))
