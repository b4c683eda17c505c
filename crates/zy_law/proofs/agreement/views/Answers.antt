use Rattle.zy_law.proofs.ChoiceExtends.{all_choices_safe}
use Rattle.zy_law.proofs.agreement.views.Goals as goal

pub returns : goal.returns
returns c = λ w view lawful. all_choices_safe w lawful view
