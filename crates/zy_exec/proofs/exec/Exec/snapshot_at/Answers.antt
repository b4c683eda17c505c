use Rattle.std.proofs.Common.{◌∙◌, ap}
use Rattle.std.specs.Prelude.{option_map}
use Rattle.zy_exec.specs.declared.shot.Shot.{Shot}
use Rattle.zy_exec.proofs.ShotLemmas.{bytes_of_shot}
use Rattle.zy_exec.proofs.exec.Exec.snapshot_at.Goals as goal

pub returns-in-Some-clause-snapshot : goal.returns-in-Some-clause-snapshot
returns-in-Some-clause-snapshot g c = ap (option_map (λ (s : Shot). s.bytes)) c.in-Some.ensures.shot ∙ bytes_of_shot g.M.Machine.rules c.args.self.now c.args.place.0

pub returns-in-None-clause-snapshot : goal.returns-in-None-clause-snapshot
returns-in-None-clause-snapshot g c = ap (option_map (λ (s : Shot). s.bytes)) c.in-None.ensures.shot ∙ bytes_of_shot g.M.Machine.rules c.args.self.now c.args.place.0
