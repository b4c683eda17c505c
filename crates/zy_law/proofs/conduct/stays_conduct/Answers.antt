use Rattle.zy_law.proofs.ConductLemmas.{acts_conduct, asking_conduct, keeping_conduct, saying_conduct, standing_conduct, start_conduct}
use Rattle.zy_law.proofs.conduct.stays_conduct.Goals as goal

pub returns : goal.returns
returns c =
    record {
      start = λ w start. start_conduct w start;
      saying = λ w r x conduct may. saying_conduct w conduct r x may;
      standing = λ w r b conduct may. standing_conduct w r b conduct may;
      asking = λ w client e conduct. asking_conduct w client e conduct;
      keeping = λ w kept conduct may. keeping_conduct w kept conduct may;
      acts = λ w r acts conduct may. acts_conduct w r acts conduct may;
    }
