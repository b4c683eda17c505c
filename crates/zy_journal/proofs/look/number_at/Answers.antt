use Rattle.std.proofs.Common.{List, ℕ, sym, subst}
use Rattle.std.specs.Int.{w32, to_be_bytes}
use Rattle.zy_journal.specs.Disk.{StandsAt}
use Rattle.zy_journal.proofs.Told.{if_some, from_some}
use Rattle.zy_journal.proofs.look.number_at.Goals as goal

pub returns-in-Filled-clause-number : goal.returns-in-Filled-clause-number
returns-in-Filled-clause-number g c =
    let contents = g.D.Disk.contents c.args.disk.now in
    if_some contents (λ file. StandsAt (to_be_bytes w32 c.number_of.result) c.args.at file) (λ file is.
    let stands = from_some contents (λ f. StandsAt c.fill.new.buf c.args.at f) file c.in-Filled.ensures.bytes is in
    subst (λ (l : List ℕ). StandsAt l c.args.at file) (sym c.number_of.ensures) stands)
