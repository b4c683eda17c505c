use Rattle.zy_schedule.specs.Making.{made_lines}
use Rattle.zy_top.specs.Group.{made_setup}
use Rattle.zy_top.proofs.MadeRuns.{made_sets_up}
use Rattle.zy_top.proofs.making.made_runs_are_safe.Goals as goal

pub returns : goal.returns
returns c = record {
  safe = λ number asks. record {
    safe = c.runs_are_safe.ensures.safe (made_setup number) (made_lines number asks) (made_sets_up number);
    grows = c.runs_are_safe.ensures.grows (made_setup number) (made_lines number asks) (made_sets_up number);
  };
  blameless = λ number asks. c.no_correct_replica_is_blamed.ensures.runs (made_setup number) (made_lines number asks) (made_sets_up number);
  backed = λ number asks. c.what_is_kept_is_backed.ensures (made_setup number) (made_lines number asks) (made_sets_up number);
  unforged = λ number asks quiet. c.no_run_is_forged.ensures.unforged (made_setup number) (made_lines number asks) (made_sets_up number) quiet;
}
