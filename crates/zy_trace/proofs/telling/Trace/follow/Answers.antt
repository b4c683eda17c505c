use Rattle.std.proofs.Common.{◌≡◌, length, append_assoc, arith}
use Rattle.zy_trace.proofs.telling.Trace.follow.Goals as goal

pub returns-clause-text : goal.returns-clause-text
returns-clause-text g c whole shows =
    let known : c.len-known.result ≡ length c.args.self.now.senders.items = omega (arith, c.len-known.ensures, c.args.self.now.senders.ok.0) in
    let frames = rw known at (c.in_ok-put_frames.ensures whole shows) in
    rw (c.in_ok-put_stand.ensures whole shows, frames, c.in_ok-put_note.ensures, c.in_ok-put_answer.ensures) (simp append_assoc)

pub returns-clause-senders : goal.returns-clause-senders
returns-clause-senders g c whole shows = rw (c.sent.ensures whole shows) at c.in_ok-fill.ensures
