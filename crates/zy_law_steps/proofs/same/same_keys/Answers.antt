use Rattle.zy_law_steps.proofs.SameKeys.{whole_same}
use Rattle.zy_law_steps.proofs.same.same_keys.Goals as goal

pub returns : goal.returns
returns g c =
    let R = g.M.Machine.rules in
    record {
      keys = λ s event. (whole_same R s event).keys;
      me = λ s event. (whole_same R s event).me;
      counts = λ s event. (whole_same R s event).counts;
      interval = λ s event. (whole_same R s event).interval;
    }
