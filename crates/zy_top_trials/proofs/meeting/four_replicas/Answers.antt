use Rattle.std.proofs.Common.{refl, lit≤}
use Rattle.std.specs.List.{IsDistinct}
use Rattle.zy_top_trials.proofs.meeting.four_replicas.Goals as goal

pub returns : goal.returns
unfolding IsDistinct
returns c =
    rw (c.plain_counts.ensures, c.new.ensures.items, c.new-2.ensures.items) record {
      replicas = lit≤ tt;
      least_interval = lit≤ tt;
      greatest_interval = lit≤ tt;
      some_client = lit≤ tt;
      clients = lit≤ tt;
      few = lit≤ tt;
      liars = (tt, tt);
      lying_clients = (tt, tt);
      seed = refl;
    }
