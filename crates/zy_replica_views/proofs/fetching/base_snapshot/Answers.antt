use Rattle.std.proofs.Common.{◌≡◌, ℕ, ◌%◌, sym, ap, ◌∙◌}
use Rattle.std.specs.Prelude.{option_copied}
use Rattle.std.proofs.lemmas.Option.{same_Some}
use Rattle.zy_exec.specs.Kept.{Kept}
use Rattle.zy_exec.specs.Shots.{snapshot_in}
use Rattle.zy_replica_views.proofs.StateLemmas.{base_shot}
use Rattle.zy_replica_views.proofs.fetching.base_snapshot.Goals as goal

pub unreachable-requires : goal.unreachable-requires
unreachable-requires g c =
    let R = g.M.Machine.rules in
    let k = c.args.core.now.kept in
    let ready = c.view-view.ensures.ready in
    let multiple : k.base.place % k.interval ≡ 0 = ap (λ (n : ℕ). n % k.interval) (sym ready.board_stable) ∙ ap (λ (n : ℕ). c.args.core.now.board.stable.place.0 % n) (sym ready.board_interval) ∙ ready.board.multiple in
    let at : c.base.result.0 ≡ k.base.place = c.base.ensures ∙ ap (λ (x : Kept g.row.M-State.Denot). x.base.place) c.exec-2.ensures in
    let there = ap (λ (x : Kept g.row.M-State.Denot). snapshot_in R x c.base.result.0) c.exec.ensures ∙ ap (λ (n : ℕ). snapshot_in R k n) at ∙ base_shot R k multiple in
    let clash = ap option_copied (sym c.in-None.is) ∙ c.snapshot_at.ensures.snapshot ∙ there in cc

pub returns-clause-bytes : goal.returns-clause-bytes
returns-clause-bytes g c =
    let R = g.M.Machine.rules in
    let k = c.args.core.now.kept in
    let ready = c.view-view.ensures.ready in
    let multiple : k.base.place % k.interval ≡ 0 = ap (λ (n : ℕ). n % k.interval) (sym ready.board_stable) ∙ ap (λ (n : ℕ). c.args.core.now.board.stable.place.0 % n) (sym ready.board_interval) ∙ ready.board.multiple in
    let at : c.base.result.0 ≡ k.base.place = c.base.ensures ∙ ap (λ (x : Kept g.row.M-State.Denot). x.base.place) c.exec-2.ensures in
    let there = ap (λ (x : Kept g.row.M-State.Denot). snapshot_in R x c.base.result.0) c.exec.ensures ∙ ap (λ (n : ℕ). snapshot_in R k n) at ∙ base_shot R k multiple in
    same_Some _ _ (ap option_copied (sym c.in-Some.is) ∙ c.snapshot_at.ensures.snapshot ∙ there)
