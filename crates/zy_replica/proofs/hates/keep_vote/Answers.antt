use Rattle.std.proofs.Common.{◌<◌, sym, subst}
use Rattle.zy_base.specs.declared.counts.Counts.{Counts}
use Rattle.zy_evidence.specs.Reading.{number_of_party}
use Rattle.zy_replica.proofs.hates.keep_vote.Goals as goal

pub with_hate-requires : goal.with_hate-requires
with_hate-requires g c =
    subst (λ (counts : Counts). number_of_party c.args.vote.by < counts.n) (sym c.view-view.ensures.ready.views.counts) c.requires
