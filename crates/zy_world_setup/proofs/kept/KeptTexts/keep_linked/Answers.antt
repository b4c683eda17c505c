use Rattle.std.proofs.Common.{rules, ◌≡◌, Result, Ok, Err, OnOk}
use Rattle.std.specs.Prelude.{IfOk}
use Rattle.zy_world_setup.proofs.KeptLemmas.{entry_clashes, head_behind, link_clashes, linked_keeps}
use Rattle.zy_world_setup.proofs.kept.KeptTexts.keep_linked.Goals as goal

on_ok : {T E P Q : Type 0} (r : Result T E) → (P → Q) → OnOk r P → OnOk r Q
on_ok (Ok x) f p = f p
on_ok (Err e) f p = p

if_ok : {T E : Type 0} {P Q : T → Type 0} (r : Result T E) → ((x : T) → P x → Q x) → IfOk r P → IfOk r Q
if_ok (Ok x) f p = f x p
if_ok (Err e) f p = p

pub returns-in_err-digest-clause-clash : goal.returns-in_err-digest-clause-clash
returns-in_err-digest-clause-clash c d err =
    entry_clashes c.args.head.now c.args.entry.now c.args.self.now c.args.self.now _ c.as_slice.ensures.value d (c.in_err-digest.ensures.clash d (search rules))

pub returns-clause-head : goal.returns-clause-head
returns-clause-head c =
    if_ok c.keep_joined.result
    (head_behind c.args.head.now c.args.entry.now c.args.self.now c.keep_entry.new.self _ c.as_slice.ensures.value _ c.in_ok-digest.ensures.digest)
    c.keep_joined.ensures.digest

pub returns-clause-keeps : goal.returns-clause-keeps
returns-clause-keeps c =
    on_ok c.keep_joined.result
    (linked_keeps c.args.head.now c.args.entry.now c.args.self.now c.keep_entry.new.self _ c.as_slice.ensures.value _ c.in_ok-digest.ensures.digest c.in_ok-digest.ensures.keeps
    c.keep_joined.new.self)
    c.keep_joined.ensures.keeps

pub returns-clause-clash : goal.returns-clause-clash
returns-clause-clash c d err =
    link_clashes c.args.head.now c.args.entry.now c.args.self.now c.keep_entry.new.self _ c.as_slice.ensures.value _ c.in_ok-digest.ensures.digest c.in_ok-digest.ensures.keeps
    d (c.keep_joined.ensures.clash d err)
