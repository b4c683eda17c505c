use Rattle.zy_law_views.proofs.Grounded.{grounded_given, grounded_own}
use Rattle.zy_law_views.proofs.begin.grounded_views.Goals as goal

pub returns : goal.returns
returns g c =
    let R = g.M.Machine.rules in
    record {
      own = λ interval texts w c cert chosen k next p lawful links known is given. grounded_own R interval w lawful links texts known c cert chosen k next is p given;
      provided = λ interval texts w c cert chosen k next p lawful links known is given. grounded_given R interval w lawful links texts known c cert chosen k next is p given;
    }
