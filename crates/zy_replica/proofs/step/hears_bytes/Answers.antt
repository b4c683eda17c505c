use Rattle.std.proofs.Common.{◌≡◌, IfOk, Result, Ok, ap, ◌∙◌, sym, subst}
use Rattle.zy_base.specs.declared.frame_fault.FrameFault.{FrameFault}
use Rattle.zy_frames.specs.declared.frame.Frame.{Frame}
use Rattle.zy_frames.specs.Frames.{frame_in}
use Rattle.zy_table.specs.Whole.{decoded_as}
use Rattle.zy_replica.proofs.step.hears_bytes.Goals as goal

pub returns-in-Ok : goal.returns-in-Ok
returns-in-Ok g c =
    let spelled : frame_in c.args.bytes.now ≡ Ok c.in-Ok.frame = ap frame_in (sym c.as_slice.ensures.value) ∙ c.in-Ok.ensures.exact in
    subst (λ (read : Result Frame FrameFault). IfOk c.hears_plain.result (λ m. m ≡ decoded_as g.M.Machine.rules c.args.core c.args.bytes.now read))
    (sym spelled) (c.hears_plain.ensures c.args.bytes.now)
