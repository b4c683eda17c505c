use Rattle.std.proofs.Common.{◌∷◌, [], ◌++◌, Result, Ok, Err, true≢false, sym, ◌∙◌, subst}
use Rattle.std.specs.Prelude.{IfOk, IsErr, IsOk, OnErr, OnOk}
use Rattle.zy_base.specs.declared.ids.Digest.{Digest}
use Rattle.zy_world_setup.specs.Kept.{Pairs, Clashes, Keeps}
use Rattle.zy_world_setup.proofs.KeptLemmas.{clash_by_book, kept_by_book}
use Rattle.zy_world_setup.proofs.kept.KeptTexts.keep_joined.Goals as goal

if_ok : {T E : Type 0} {P Q : T → Type 0} (r : Result T E) → ((x : T) → P x → Q x) → IfOk r P → IfOk r Q
if_ok (Ok x) f p = f x p
if_ok (Err e) f p = p

on_ok : {T E P Q : Type 0} (r : Result T E) → (P → Q) → OnOk r P → OnOk r Q
on_ok (Ok x) f p = f p
on_ok (Err e) f p = p

on_err : {T E P Q : Type 0} (r : Result T E) → (P → Q) → OnErr r P → OnErr r Q
on_err (Ok x) f p = p
on_err (Err e) f p = f p

when_ok : {T E P : Type 0} (r : Result T E) → OnOk r P → IsOk r → P
when_ok (Ok x) p ok = p
when_ok (Err e) p ok = absurd (true≢false (sym ok))

when_err : {T E P : Type 0} (r : Result T E) → OnErr r P → IsErr r → P
when_err (Ok x) p err = absurd (true≢false (sym err))
when_err (Err e) p err = p

pub returns-clause-digest : goal.returns-clause-digest
returns-clause-digest c = if_ok c.answered.result (λ d is. is ∙ c.digest_joined-digest.ensures) c.answered.ensures.digest

pub returns-clause-err : goal.returns-clause-err
returns-clause-err c = on_err c.answered.result (λ err. when_err c.keep-kept.result c.keep-kept.ensures.err err ∙ c.self.view_is) c.answered.ensures.err

pub returns-clause-keeps : goal.returns-clause-keeps
returns-clause-keeps c =
    let text = c.args.front.now ++ c.args.rest.now in
    let book = c.self.inside.book in
    let digest = c.digest_joined-digest.result in
    on_ok c.answered.result
    (λ ok.
    subst (λ (p : Pairs). Keeps (text ∷ []) p c.keep-kept.new.self) c.self.view_is
    (kept_by_book book c.keep-kept.new.self text c.keep-kept.result digest c.digest_joined-digest.ensures c.keep-kept.ensures.known c.keep-kept.ensures.clash c.keep-kept.ensures.fresh
    ok (when_ok c.keep-kept.result c.keep-kept.ensures.texts ok)))
    c.answered.ensures.kept

pub returns-clause-clash : goal.returns-clause-clash
returns-clause-clash c d err =
    let text = c.args.front.now ++ c.args.rest.now in
    let book = c.self.inside.book in
    let digest = c.digest_joined-digest.result in
    let told = c.answered.ensures.clash d err in
    subst (λ (e : Digest). Clashes (text ∷ []) c.args.self.now e) (sym told.1)
    (subst (λ (p : Pairs). Clashes (text ∷ []) p digest) c.self.view_is
    (clash_by_book book c.keep-kept.new.self text c.keep-kept.result digest c.digest_joined-digest.ensures c.keep-kept.ensures.known c.keep-kept.ensures.clash c.keep-kept.ensures.fresh told.0))
