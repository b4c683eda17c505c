use Rattle.std.proofs.lemmas.Result.{err_from_is_err_and}
use Rattle.zy_edge.specs.Files.{Held, content_of}
use Rattle.zy_top.proofs.JudgeLaws.{group_read, group_unread, setup_reads, setup_spelled, setup_starts}
use Rattle.zy_top.proofs.replays.read_group.Goals as goal

pub returns-in_err-text-clause-told : goal.returns-in_err-text-clause-told
returns-in_err-text-clause-told g c =
    let p = err_from_is_err_and c.from_residual.result c.from_residual.ensures.1 in
    rw (p.1, p.2) (group_unread {A = Held} (g.F.Files.held c.args.files.now) (λ held. content_of held c.args.group.now) _ c.in_err-text.ensures.bytes)

pub returns-clause-told : goal.returns-clause-told
returns-clause-told g c =
    group_read {A = Held} (g.F.Files.held c.args.files.now) (λ held. content_of held c.args.group.now) c.in_ok-text.text c.read_scene.result c.in_ok-text.ensures.bytes
    (rw c.deref.ensures.value at c.read_scene.ensures)

pub returns-clause-spelled : goal.returns-clause-spelled
returns-clause-spelled g c =
    setup_spelled {A = Held} (g.F.Files.held c.args.files.now) (λ held. content_of held c.args.group.now) c.in_ok-text.text c.read_scene.result c.in_ok-text.ensures.bytes
    (rw c.deref.ensures.value at c.read_scene.ensures)

pub returns-clause-start : goal.returns-clause-start
returns-clause-start g c = setup_starts _ c.read_scene.result c.read_scene.ensures

pub returns-clause-exit : goal.returns-clause-exit
returns-clause-exit g c = setup_reads _ c.read_scene.result c.read_scene.ensures
