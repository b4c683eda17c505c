use Rattle.std.proofs.Common.{◌⊎◌, List, ℕ, length}
use Rattle.zy_journal.specs.Disk.{Only, LeavesOnly, Torn, with_bytes}
use Rattle.zy_journal.specs.Journal.{Keeps}
use Rattle.zy_journal.specs.Starting.{IsShutAtFirst}
use Rattle.zy_journal.proofs.Begins.{each_begun}
use Rattle.zy_journal.proofs.Moments.{weaker}
use Rattle.zy_journal.proofs.Told.{if_some, from_some}
use Rattle.zy_journal.proofs.making.begin.Goals as goal

pub returns-clause-any_moment : goal.returns-clause-any_moment
returns-clause-any_moment g c =
    let contents = g.D.Disk.contents c.args.disk.now in
    let Leaves : (List ℕ → Type 0) → Type 0 = λ P. LeavesOnly g.D.Disk.moment g.D.Disk.left_since c.args.disk.now c.put_behind.new.disk P in
    if_some contents (λ file. Leaves (Keeps c.args.identity.now file)) (λ file is.
    let head = c.head_of.result in
    let shut = (from_some contents (λ f. Only f (g.D.Disk.may_leave c.args.disk.now) × IsShutAtFirst f) file c.requires is).1 in
    let run = from_some contents (λ f. Leaves (λ image. Torn 1 (length head) f image ⊎ Torn 0 1 (with_bytes 1 head f) image)) file c.put_behind.ensures.any_moment is in
    weaker g.D.Disk.moment g.D.Disk.left_since c.args.disk.now c.put_behind.new.disk (λ image. Torn 1 (length head) file image ⊎ Torn 0 1 (with_bytes 1 head file) image) (Keeps c.args.identity.now file)
    (each_begun c.args.identity.now file head c.head_of.ensures.size shut c.head_of.ensures.bytes) run)
