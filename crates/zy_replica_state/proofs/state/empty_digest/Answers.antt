use Rattle.std.proofs.Common.{◌≡◌, Some, ◌∙◌, ap}
use Rattle.std.specs.Prelude.{option_map}
use Rattle.zy_exec.specs.Replay.{origin}
use Rattle.zy_exec.specs.Shots.{digest_of_snapshot}
use Rattle.zy_exec.specs.Snapshot.{snapshot_of}
use Rattle.zy_replica_state.proofs.OwnLemmas.{first_snapshot}
use Rattle.zy_replica_state.proofs.state.empty_digest.Goals as goal

pub unreachable-requires : goal.unreachable-requires
unreachable-requires g c =
    let R = g.M.Machine.rules in
    let there : c.snapshot_digest_at.result ≡ Some (digest_of_snapshot (snapshot_of R (origin R))) =
    c.snapshot_digest_at.ensures ∙ ap (option_map digest_of_snapshot) (first_snapshot R c.args.exec.now c.requires.base c.requires.entries) in
    cc (there, c.in-None.is)

pub returns : goal.returns
returns g c =
    let R = g.M.Machine.rules in
    let there : c.snapshot_digest_at.result ≡ Some (digest_of_snapshot (snapshot_of R (origin R))) =
    c.snapshot_digest_at.ensures ∙ ap (option_map digest_of_snapshot) (first_snapshot R c.args.exec.now c.requires.base c.requires.entries) in
    cc (there, c.in-Some.is)
