use Rattle.zy_law.proofs.StepsLawful.{start_lawful, saying_lawful, standing_lawful, asking_lawful, keeping_lawful, acts_lawful}
use Rattle.zy_law.proofs.GrownLemmas.{completed_grown, fixed_grown, list_grown}
use Rattle.zy_law.proofs.steps.stays_lawful.Goals as goal

pub returns : goal.returns
returns c =
    record {
      start = λ w start. start_lawful w start;
      saying = λ w r x lawful may. saying_lawful w lawful r x may;
      standing = λ w r b lawful may. standing_lawful w lawful r b may;
      asking = λ w client e lawful. asking_lawful w client e lawful;
      keeping = λ w kept lawful may. keeping_lawful w kept lawful may;
      completed = λ w asked said past kept c more done. completed_grown w asked said past kept more.asks more.says more.stands c done;
      fixed = λ w asked said past kept view m more is. fixed_grown w asked said past kept more.asks more.says more.stands view m is;
      listed = λ w asked said past kept m list more is. list_grown w asked said past kept more.keeps m list is;
      acts = λ w r acts lawful may. acts_lawful w r acts lawful may;
    }
