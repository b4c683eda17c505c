use Rattle.zy_law_views.proofs.InView.{orders_more, says_checkpoint, says_commit, says_order, says_response}
use Rattle.zy_law_views.proofs.speech.speaking.Goals as goal

pub returns : goal.returns
returns g c =
    let R = g.M.Machine.rules in
    record {
      response = λ interval r w c history view m a lawful correct tied active. says_response R interval w lawful r correct c history tied view active m a;
      commit = λ interval r w c history view m lawful correct tied active. says_commit R interval w lawful r correct c history tied view active m;
      checkpoint = λ interval r w c history view m state lawful correct tied active. says_checkpoint R interval w lawful r correct c history tied view active m state;
      order = λ interval r w c history view m request lawful correct tied active. says_order R interval w lawful r correct c history tied view active m request;
      orders = λ interval r w c history view m request lawful correct tied active. orders_more R interval w lawful r correct c history tied view active m request;
    }
