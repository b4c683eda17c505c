use Rattle.zy_law.proofs.ChoiceExtends.{choices_extend}
use Rattle.zy_law.proofs.agreement.choice_extends.Goals as goal

pub returns : goal.returns
returns c = λ w view lawful safe. choices_extend w lawful view safe
