use Rattle.std.proofs.Common.{sym, ap, ◌∙◌, option_copied, arith}
use Rattle.zy_trace.proofs.Framing.{frames_all, frames_end, frames_on}
use Rattle.zy_trace.proofs.telling.put_frames.Goals as goal

pub returns-in_default : goal.returns-in_default
returns-in_default g c whole shows =
    frames_end whole _ _ c.args.number c.args.by c.loop-before.next c.loop-before.before (sym (c.mail.ensures whole shows) ∙ ap option_copied c.in_default.is) (c.loop-before.invariant whole shows)

pub loop-before-preserved : goal.loop-before-preserved
loop-before-preserved g c whole shows =
    frames_on whole _ _ _ c.args.number c.args.by c.loop-before.next _ c.loop-before.before c.in-Some.mail.now (sym (c.mail.ensures whole shows) ∙ ap option_copied c.in-Some.is)
    c.in_ok-next.ensures.text c.in_ok-next.ensures.unspent (c.loop-before.invariant whole shows)

pub returns : goal.returns
returns g c whole shows =
    frames_all whole _ _ c.args.number c.args.by c.loop-before.next c.loop-before.before (omega (arith, c.sent-before-end.ensures whole shows, c.loop-before-test.false)) (c.loop-before.invariant whole shows)
