use Rattle.std.proofs.Common.{rules, ℕ, List, ◌∷◌, [], Err, Result, Ok, OnOk, subst}
use Rattle.zy_world_setup.specs.Kept.{Keeps, Clashes}
use Rattle.zy_world_setup.proofs.KeptLemmas.{got_clashes, got_keeps, reply_clashes, snapshot_clashes}
use Rattle.zy_world_setup.proofs.kept.KeptTexts.keep_got.Goals as goal

on_ok : {T E P Q : Type 0} (r : Result T E) → (P → Q) → OnOk r P → OnOk r Q
on_ok (Ok x) f p = f p
on_ok (Err e) f p = p

pub returns-in_err-keep_linked-clause-clash : goal.returns-in_err-keep_linked-clause-clash
returns-in_err-keep_linked-clause-clash c d err = got_clashes c.args.got.now c.args.self.now d (c.in_err-keep_linked.ensures.clash d (search rules))

pub returns-in_err-keep-clause-clash : goal.returns-in_err-keep-clause-clash
returns-in_err-keep-clause-clash c d err =
    let linked = c.keep_linked.new.self in
    reply_clashes c.args.got.now c.args.self.now linked c.in_ok-keep_linked.ensures.keeps
    d (subst (λ (l : List ℕ). Clashes (l ∷ []) linked d) c.as_slice.ensures.value (c.in_err-keep.ensures.clash d (search rules)))

pub returns-clause-keeps : goal.returns-clause-keeps
returns-clause-keeps c =
    let linked = c.keep_linked.new.self in
    on_ok c.keep_snapshot.result
    (got_keeps c.args.got.now c.args.self.now linked c.in_ok-keep_linked.ensures.keeps
    c.keep.new.self (subst (λ (l : List ℕ). Keeps (l ∷ []) linked c.keep.new.self) c.as_slice.ensures.value c.in_ok-keep.ensures.keeps)
    c.keep_snapshot.new.self)
    c.keep_snapshot.ensures.keeps

pub returns-clause-clash : goal.returns-clause-clash
returns-clause-clash c d err =
    let linked = c.keep_linked.new.self in
    snapshot_clashes c.args.got.now c.args.self.now linked c.in_ok-keep_linked.ensures.keeps
    c.keep.new.self (subst (λ (l : List ℕ). Keeps (l ∷ []) linked c.keep.new.self) c.as_slice.ensures.value c.in_ok-keep.ensures.keeps)
    d (c.keep_snapshot.ensures.clash d err)
