use Rattle.zy_change.proofs.AcceptedLemmas.{accepted_provider, accepted_given, accepted_place}
use Rattle.zy_change.proofs.laws.providers.Goals as goal

pub returns : goal.returns
returns c =
    record {
      provider = accepted_provider;
      given = λ counts interval a change is there. accepted_given counts interval a is change there;
      place = accepted_place;
    }
