use Rattle.std.proofs.Common.{◌≡◌, List, length, Option, Some, sym, ap, ◌∙◌, subst}
use Rattle.std.proofs.lemmas.List.{with_items_is}
use Rattle.std.specs.Prelude.{slice_set}
use Rattle.std.specs.Vec.{with_items}
use Rattle.zy_parts.specs.declared.reports.Began.{Began}
use Rattle.zy_parts.specs.declared.signed.Signed.{Signed}
use Rattle.zy_evidence.specs.Reading.{number_of_party}
use Rattle.zy_change.specs.Fit.{IsAccepted, IsOwnBegan}
use Rattle.zy_change.specs.Views.{Views, without_others}
use Rattle.zy_change.proofs.GivingLemmas.{with_new-fit}
use Rattle.zy_change.proofs.machine.ViewMachine.accept.Goals as goal

put : (c : goal.Joined-self) → (with_items c.self.inside.begans c.put_own.new.begans).items ≡ slice_set (without_others c.args.own.stmt c.self.inside.begans.items) (number_of_party c.args.own.by) (Some c.args.own)
put c =
    with_items_is c.self.inside.begans c.put_own.new.begans (c.put_own.ensures.len ∙ ap length c.deref_mut.ensures.value ∙ sym c.self.inside.begans.ok.0)
    ∙ c.put_own.ensures.put
    ∙ ap (λ (l : List (Option (Signed Began))). slice_set (without_others c.args.own.stmt l) c.self.inside.me.0 (Some c.args.own)) c.deref_mut.ensures.value
    ∙ ap (λ n. slice_set (without_others c.args.own.stmt c.self.inside.begans.items) n (Some c.args.own)) (ap (λ (v : Views). v.me.0) c.self.view_is ∙ sym (ap number_of_party c.requires.own.by))

pub returns : goal.returns
returns c =
    let now = c.args.self.now in
    ap (λ (v : Views). record v { begans = (with_items c.self.inside.begans c.put_own.new.begans).items; accepted = Some c.args.accepted }) c.self.view_is
    ∙ ap (λ (l : List (Option (Signed Began))). record now { begans = l; accepted = Some c.args.accepted }) (put c)
    ∙ ap (λ (v : Views). record now { begans = slice_set (without_others c.args.own.stmt v.begans) (number_of_party c.args.own.by) (Some c.args.own); accepted = Some c.args.accepted }) c.self.view_is

pub invariant_of-self : goal.invariant_of-self
invariant_of-self c =
    rw (put c)
    (with_new-fit _ c.args.accepted c.args.own c.self.invariant
    (subst (λ (v : Views). IsAccepted v.counts v.interval c.args.accepted) (sym c.self.view_is) c.requires.accepted)
    (subst (λ (v : Views). IsOwnBegan v.me c.args.accepted c.args.own) (sym c.self.view_is) c.requires.own))
