use Rattle.std.proofs.Common.{◌≡◌, ◌∷◌, [], ◌≤◌, length, sym, ◌∙◌, arith}
use Rattle.zy_journal.specs.Disk.{StandsAt}
use Rattle.zy_journal.specs.Journal.{mark_of}
use Rattle.zy_journal.specs.Starting.{IsStart}
use Rattle.zy_journal.specs.declared.making.Start.TheVariants.{Other}
use Rattle.zy_journal.proofs.Begins.{not_marked, used_of}
use Rattle.zy_journal.proofs.Told.{if_some, from_some}
use Rattle.zy_journal.proofs.making.whose.Goals as goal

pub returns-else-is_same-clause-start : goal.returns-else-is_same-clause-start
returns-else-is_same-clause-start g c =
    let contents = g.D.Disk.contents c.args.disk.now in
    let identity = c.args.identity.now in
    let found = c.fill.new.buf in
    if_some contents (λ file. IsStart identity file Other) (λ file is.
    let given = from_some contents (λ f. (42 ≤ length f) × StandsAt (1 ∷ []) 0 f) file c.requires is in
    let stands = from_some contents (λ f. StandsAt found 1 f) file c.in-Filled.ensures.bytes is in
    let other : found ≡ mark_of identity → ⊥ = λ e. let yes = c.is_same.ensures.1 (e ∙ sym c.mark_of.ensures.bytes) in let no = c.if-is_same.false in absurd cc in
    let size : length found ≡ length (mark_of identity) = omega (arith, c.fill.auto.buf, c.mark_of.ensures.size) in
    (used_of file given.0 given.1, not_marked identity file found size other stands))
