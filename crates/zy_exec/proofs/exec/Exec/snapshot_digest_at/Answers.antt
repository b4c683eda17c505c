use Rattle.std.proofs.Common.{◌∙◌, ap}
use Rattle.std.specs.Prelude.{option_map}
use Rattle.zy_exec.specs.declared.shot.Shot.{Shot}
use Rattle.zy_exec.proofs.ShotLemmas.{digest_of_shot}
use Rattle.zy_exec.proofs.exec.Exec.snapshot_digest_at.Goals as goal

pub returns-in-Some : goal.returns-in-Some
returns-in-Some g c = ap (option_map (λ (s : Shot). s.digest)) c.in-Some.ensures.shot ∙ digest_of_shot g.M.Machine.rules c.args.self.now c.args.place.0

pub returns-in-None : goal.returns-in-None
returns-in-None g c = ap (option_map (λ (s : Shot). s.digest)) c.in-None.ensures.shot ∙ digest_of_shot g.M.Machine.rules c.args.self.now c.args.place.0
