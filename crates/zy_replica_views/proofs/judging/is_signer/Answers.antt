use Rattle.std.proofs.Common.{◌∙◌, ap, sym}
use Rattle.zy_base.specs.declared.ids.Party.TheVariants.{Replica}
use Rattle.zy_base.specs.declared.ids.ReplicaId.{ReplicaId}
use Rattle.zy_replica_views.proofs.judging.is_signer.Goals as goal

pub returns-clause-signer : goal.returns-clause-signer
returns-clause-signer g c =
    record {
      by = c.can_sign.ensures.ready.signer ∙ ap (λ (id : ReplicaId). Replica id) (sym c.can_sign.ensures.ready.views.me);
      within = c.can_sign.ensures.within;
    }
