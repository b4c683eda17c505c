use Rattle.std.proofs.Common.{◌≡◌, Some, sym, subst, ◌∙◌, ap}
use Rattle.std.specs.Prelude.{nat_le, filter}
use Rattle.zy_parts.specs.declared.signed.Signed.{Signed}
use Rattle.zy_parts.specs.declared.statements.Local.{Local}
use Rattle.zy_table.specs.State.{State}
use Rattle.zy_table.specs.Gathering.{proof_at, settled_at}
use Rattle.zy_replica_state.specs.Ready.{IsOwnReady}
use Rattle.zy_replica_state.proofs.ReadyLemmas.{settled_is, ready_settled}
use Rattle.zy_replica_state.proofs.state.Core.settle.Goals as goal

pub invariant_of-self : goal.invariant_of-self
invariant_of-self g c =
    let R = g.M.Machine.rules in
    let own = c.args.own.now in
    let proof = c.args.proof.items in
    let stays = λ (said : Signed Local). nat_le own.check.place.0 said.stmt.place.0 in
    let here = subst (λ (s : State g.row.M-State.Denot). IsOwnReady s.kept s.views.last_view own) (sym c.self.view_is) c.requires.own in
    let found = subst (λ (s : State g.row.M-State.Denot). proof_at s own.check ≡ Some proof) (sym c.self.view_is) c.requires.proof in
    ready_settled R _ own proof c.self.invariant here found c.requires.proves
    _ _ _ _ c.settle.ensures c.cut_below.ensures c.set_stable.ensures (c.locals_from.ensures ∙ ap (filter stays) c.replace-locals.ensures.value)

pub returns : goal.returns
returns g c =
    let R = g.M.Machine.rules in
    let own = c.args.own.now in
    let proof = c.args.proof.items in
    let stays = λ (said : Signed Local). nat_le own.check.place.0 said.stmt.place.0 in
    let here = subst (λ (s : State g.row.M-State.Denot). IsOwnReady s.kept s.views.last_view own) (sym c.self.view_is) c.requires.own in
    let found = subst (λ (s : State g.row.M-State.Denot). proof_at s own.check ≡ Some proof) (sym c.self.view_is) c.requires.proof in
    settled_is R _ own proof c.self.invariant here found c.requires.proves
    _ _ _ _ c.settle.ensures c.cut_below.ensures c.set_stable.ensures (c.locals_from.ensures ∙ ap (filter stays) c.replace-locals.ensures.value)
    ∙ ap (settled_at R own.check.place.0 proof) c.self.view_is
