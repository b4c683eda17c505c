use Rattle.zy_law.proofs.FixedForGood.{fixed_extends, fixed_passed_later}
use Rattle.zy_law.proofs.agreement.fixed_for_good.Goals as goal

pub returns : goal.returns
returns c =
    record {
      one_list = λ w view other m k lawful a b order. fixed_extends w lawful view other m k a b order;
      kept = λ w view m t lawful fixed later. fixed_passed_later w lawful view m t fixed later;
    }
