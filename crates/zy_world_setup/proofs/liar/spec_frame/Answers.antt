use Rattle.zy_world_setup.proofs.AsTold.{spec_as_told}
use Rattle.zy_world_setup.proofs.liar.spec_frame.Goals as goal

pub returns-clause-frame : goal.returns-clause-frame
returns-clause-frame c =
    spec_as_told c.args.view c.args.asks.now c.args.sealer.now c.last_of-last.result.now c.last_of-last.ensures.value c.args.reply
    c.spec_of.result c.in_ok-spec.spec c.in_ok-encoded.field-0
    c.spec_of.ensures.value c.in_ok-spec.ensures.value c.in_ok-encoded.ensures
