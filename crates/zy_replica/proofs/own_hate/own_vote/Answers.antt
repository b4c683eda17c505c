use Rattle.std.proofs.Common.{◌≡◌, ◌<◌, ◌∙◌, ap, sym, subst}
use Rattle.zy_base.specs.declared.counts.Counts.{Counts}
use Rattle.zy_base.specs.declared.ids.Party.{Party}
use Rattle.zy_base.specs.declared.ids.Party.TheVariants.{Replica}
use Rattle.zy_base.specs.declared.ids.ReplicaId.{ReplicaId}
use Rattle.zy_change.specs.Views.{Views, is_hated_by}
use Rattle.zy_replica.proofs.OwnHateLemmas.{is_now, owes_hate, owes_nothing}
use Rattle.zy_replica.proofs.own_hate.own_vote.Goals as goal

pub owed_by_hate-requires : goal.owed_by_hate-requires
owed_by_hate-requires g c =
    subst (λ (counts : Counts). c.me-me.result.0 < counts.n) (ap (λ (v : Views). v.counts) c.views.ensures.views ∙ c.views.ensures.ready.views.counts) c.me-me.ensures.member

pub returns-then-has_hate_of-clause-by : goal.returns-then-has_hate_of-clause-by
returns-then-has_hate_of-clause-by g c =
    ap (λ (id : ReplicaId). Replica id) (c.me-me.ensures.me ∙ ap (λ (v : Views). v.me) c.views.ensures.views ∙ c.views.ensures.ready.views.me)

pub returns-then-has_hate_of-clause-member : goal.returns-then-has_hate_of-clause-member
returns-then-has_hate_of-clause-member g c =
    subst (λ (counts : Counts). c.me-me.result.0 < counts.n) (ap (λ (v : Views). v.counts) c.views.ensures.views ∙ c.views.ensures.ready.views.counts) c.me-me.ensures.member

pub returns-then-has_hate_of-clause-owed : goal.returns-then-has_hate_of-clause-owed
returns-then-has_hate_of-clause-owed g c =
    let s = c.args.core.now in
    let by = ap (λ (id : ReplicaId). Replica id) (c.me-me.ensures.me ∙ ap (λ (v : Views). v.me) c.views.ensures.views ∙ c.views.ensures.ready.views.me) in
    let hated =
    ap (λ (party : Party). is_hated_by s.views party) (sym by)
    ∙ ap (λ (v : Views). is_hated_by v (Replica c.me-me.result)) (sym c.views-2.ensures.views)
    ∙ sym c.has_hate_of.ensures
    ∙ c.if-has_hate_of.true in
    owes_nothing s c.nothing.result hated c.nothing.ensures

pub returns-clause-by : goal.returns-clause-by
returns-clause-by g c =
    ap (λ (id : ReplicaId). Replica id) (c.me-me.ensures.me ∙ ap (λ (v : Views). v.me) c.views.ensures.views ∙ c.views.ensures.ready.views.me)

pub returns-clause-member : goal.returns-clause-member
returns-clause-member g c =
    subst (λ (counts : Counts). c.me-me.result.0 < counts.n) (ap (λ (v : Views). v.counts) c.views.ensures.views ∙ c.views.ensures.ready.views.counts) c.me-me.ensures.member

pub returns-clause-owed : goal.returns-clause-owed
returns-clause-owed g c =
    let s = c.args.core.now in
    let by = ap (λ (id : ReplicaId). Replica id) (c.me-me.ensures.me ∙ ap (λ (v : Views). v.me) c.views.ensures.views ∙ c.views.ensures.ready.views.me) in
    let hated =
    ap (λ (party : Party). is_hated_by s.views party) (sym by)
    ∙ ap (λ (v : Views). is_hated_by v (Replica c.me-me.result)) (sym c.views-2.ensures.views)
    ∙ sym c.has_hate_of.ensures
    ∙ c.if-has_hate_of.false in
    owes_hate s (record { by = Replica c.me-me.result; stmt = record { view = c.view.result }; sig = c.new.result }) c.in_ok-owed.owed hated by (is_now s (record { view = c.view.result }) c.view.ensures.view) c.in_ok-owed.ensures.owed
