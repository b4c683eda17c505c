use Rattle.zy_law_views.proofs.NoBlame.{never_in_conflict, not_below, provider_has_stable, provider_state}
use Rattle.zy_law_views.proofs.blameless.blame.Goals as goal

pub returns : goal.returns
returns g c =
    let R = g.M.Machine.rules in
    record {
      orders = λ w a b id lawful by correct first second conflict. never_in_conflict w lawful a b id by correct first second conflict;
      above = λ interval r w c history n m p lawful links tied is later. not_below R interval w lawful links r c history tied n m p is later;
      head = λ interval r w c history n m p lawful links tied is later below. provider_has_stable R interval w lawful links r c history tied n m p is later below;
      state = λ interval w n m p t lawful is some passes. provider_state w lawful interval n m p is some t passes;
    }
