use Rattle.std.proofs.Common.{◌≡◌, ◌∷◌, [], Some, ap, ◌∙◌}
use Rattle.zy_journal.specs.Disk.{Only, IsOnly, LeavesOnly, Torn, with_bytes}
use Rattle.zy_journal.specs.Journal.{Keeps}
use Rattle.zy_journal.specs.Starting.{IsShort}
use Rattle.zy_journal.proofs.Begins.{shut_file, shut_written, shut_keeps, keeps_through}
use Rattle.zy_journal.proofs.Moments.{weaker, then_on}
use Rattle.zy_journal.proofs.Told.{if_some, from_some}
use Rattle.zy_journal.proofs.making.shut_and_begin.Goals as goal

pub returns-in-Failed-clause-any_moment : goal.returns-in-Failed-clause-any_moment
returns-in-Failed-clause-any_moment g c =
    let contents = g.D.Disk.contents c.args.disk.now in
    let old = c.args.disk.now in
    let mid = c.put.new.disk in
    if_some contents (λ file. LeavesOnly g.D.Disk.moment g.D.Disk.left_since old mid (Keeps c.args.identity.now file)) (λ file is.
    let given = from_some contents (λ f. Only f (g.D.Disk.may_leave old) × IsShort f) file c.requires is in
    weaker g.D.Disk.moment g.D.Disk.left_since old mid (Torn 0 1 file) (Keeps c.args.identity.now file)
    (λ image torn. shut_keeps c.args.identity.now file image given.1 torn) (c.put.ensures.any_moment file given.0))

pub returns-in-Did-clause-any_moment : goal.returns-in-Did-clause-any_moment
returns-in-Did-clause-any_moment g c =
    let contents = g.D.Disk.contents c.args.disk.now in
    let old = c.args.disk.now in
    let mid = c.put.new.disk in
    let new = c.begin.new.disk in
    let moment = g.D.Disk.moment in
    let left_since = g.D.Disk.left_since in
    let identity = c.args.identity.now in
    if_some contents (λ file. LeavesOnly moment left_since old new (Keeps identity file)) (λ file is.
    let given = from_some contents (λ f. Only f (g.D.Disk.may_leave old) × IsShort f) file c.requires is in
    let done = from_some contents (λ f. IsOnly (with_bytes 0 (0 ∷ []) f) (g.D.Disk.contents mid) (g.D.Disk.may_leave mid)) file c.in-Did.ensures.done is in
    let told : g.D.Disk.contents mid ≡ Some (shut_file file) = done.told ∙ ap Some (shut_written file) in
    let first = weaker moment left_since old mid (Torn 0 1 file) (Keeps identity file) (λ image torn. shut_keeps identity file image given.1 torn) (c.put.ensures.any_moment file given.0) in
    let later = from_some (g.D.Disk.contents mid) (λ f. LeavesOnly moment left_since mid new (Keeps identity f)) (shut_file file) c.begin.ensures.any_moment told in
    then_on moment left_since old mid new (Keeps identity file) first
    (weaker moment left_since mid new (Keeps identity (shut_file file)) (Keeps identity file) (λ image keeps. keeps_through identity file image given.1 keeps) later))
