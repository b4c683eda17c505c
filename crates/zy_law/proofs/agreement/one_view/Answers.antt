use Rattle.zy_law.proofs.OneView.{fixed_in_one_view, fixed_known}
use Rattle.zy_law.proofs.agreement.one_view.Goals as goal

pub returns : goal.returns
returns c =
    record {
      one_list = λ w view m k lawful a b order. fixed_in_one_view w lawful view m k a b order;
      known = λ w view m lawful a. fixed_known w lawful view m a;
    }
