use Rattle.std.proofs.Common.{◌≡◌, IfOk, ℕ, true, false, sym, ◌∙◌, ap, subst}
use Rattle.std.specs.Prelude.{nat_lt}
use Rattle.zy_base.specs.declared.cause.Cause.TheVariants as causes
use Rattle.zy_exec.specs.Kept.{last_place}
use Rattle.zy_table.specs.Deeds.{Outcome, refused}
use Rattle.zy_table.specs.State.{window_of}
use Rattle.zy_replica_normal.proofs.CommitLemmas.{below, not_below}
use Rattle.zy_replica_normal.proofs.requests.request_at_primary.Goals as goal

pub returns-then-lt : goal.returns-then-lt
returns-then-lt g c =
    let lt : nat_lt (last_place c.args.core.kept) (window_of c.args.core) ≡ true = rw (sym c.length.ensures.place, sym c.window-window.ensures.place) (below _ _ (sym c.lt.ensures ∙ c.if-lt.true)) in
    rw lt c.take_request.ensures

pub returns-else-lt : goal.returns-else-lt
returns-else-lt g c =
    let lt : nat_lt (last_place c.args.core.kept) (window_of c.args.core) ≡ false = rw (sym c.length.ensures.place, sym c.window-window.ensures.place) (not_below _ _ (sym c.lt.ensures ∙ c.if-lt.false)) in
    rw lt
    (subst (λ (o : Outcome g.row.M-State.Denot). IfOk c.not_heard.result (λ (m : Outcome g.row.M-State.Denot). m ≡ o))
    (ap (λ (n : ℕ). refused (causes.WindowFull (record { 0 = n })) c.args.core) c.window-window.ensures.place)
    c.not_heard.ensures)
