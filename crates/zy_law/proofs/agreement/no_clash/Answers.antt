use Rattle.zy_law.proofs.OneChoice.{only_anchor, one_choice}
use Rattle.zy_law.proofs.agreement.no_clash.Goals as goal

pub returns : goal.returns
returns c =
    record {
      one_anchor = λ w view last reports anchor lawful valid greatest is. only_anchor w lawful view reports valid last anchor greatest is;
      one_choice = λ w view reports m k lawful valid a b. one_choice w lawful view reports valid m k a b;
    }
