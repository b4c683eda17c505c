use Rattle.std.proofs.Common.{◌≡◌, ℕ, List, ◌++◌, true, None, Some, refl, sym, ap, ◌∙◌, true≢false}
use Rattle.std.specs.Str.{bytes_eq}
use Rattle.std.proofs.lemmas.Option.{same_Some}
use Rattle.std.proofs.lemmas.Slice.Eq.{bytes_eq-Decides}
use Rattle.zy_book.specs.Texts.{Texts, text_under}
use Rattle.zy_book.proofs.book.Book.keep.Goals.{then-is_joined, else-is_joined}
use Rattle.zy_book.proofs.book.Book.keep.Goals as goal

pub returns-in_err-text-in-None-clause-known : goal.returns-in_err-text-in-None-clause-known
returns-in_err-text-in-None-clause-known c found =
    let never : None ≡ Some (c.args.front.now ++ c.args.rest.now) =
    c.in-None.ensures.value ∙ ap (λ (p : Texts). text_under p c.args.digest) c.self.view_is ∙ found in
    absurd cc

pub returns-in_err-text-in-None-clause-clash : goal.returns-in_err-text-in-None-clause-clash
returns-in_err-text-in-None-clause-clash c kept found differs =
    let never : None ≡ Some kept = c.in-None.ensures.value ∙ ap (λ (p : Texts). text_under p c.args.digest) c.self.view_is ∙ found in
    absurd cc

pub returns-in_err-put-in-None-clause-known : goal.returns-in_err-put-in-None-clause-known
returns-in_err-put-in-None-clause-known c found =
    let never : None ≡ Some (c.args.front.now ++ c.args.rest.now) =
    c.in-None.ensures.value ∙ ap (λ (p : Texts). text_under p c.args.digest) c.self.view_is ∙ found in
    absurd cc

pub returns-in_err-put-in-None-clause-clash : goal.returns-in_err-put-in-None-clause-clash
returns-in_err-put-in-None-clause-clash c kept found differs =
    let never : None ≡ Some kept = c.in-None.ensures.value ∙ ap (λ (p : Texts). text_under p c.args.digest) c.self.view_is ∙ found in
    absurd cc

pub returns-in_ok-put-in-None-clause-clash : goal.returns-in_ok-put-in-None-clause-clash
returns-in_ok-put-in-None-clause-clash c kept found differs =
    let never : None ≡ Some kept = c.in-None.ensures.value ∙ ap (λ (p : Texts). text_under p c.args.digest) c.self.view_is ∙ found in
    absurd cc

pub returns-after-is_joined-clause-fresh : goal.returns-after-is_joined-clause-fresh
returns-after-is_joined-clause-fresh c free =
    let never : Some c.in-Some.kept.now ≡ None = c.in-Some.ensures.value ∙ ap (λ (p : Texts). text_under p c.args.digest) c.self.view_is ∙ free in
    absurd cc

pub returns-after-is_joined-clause-known : goal.returns-after-is_joined-clause-known
returns-after-is_joined-clause-known c found =
    let text = c.args.front.now ++ c.args.rest.now in
    let kept : c.in-Some.kept.now ≡ text =
    same_Some c.in-Some.kept.now text (c.in-Some.ensures.value ∙ ap (λ (p : Texts). text_under p c.args.digest) c.self.view_is ∙ found) in
    let tested : c.is_joined.result ≡ true =
    c.is_joined.ensures ∙ ap (λ (l : List ℕ). bytes_eq l text) (c.as_slice.ensures.value ∙ kept) ∙ (bytes_eq-Decides text text).1 refl in
    elim c.if-is_joined.branch [
      | then-is_joined w ↦ rw w.result-is refl
      | else-is_joined w ↦ absurd (true≢false (sym tested ∙ w.if-is_joined.false))
    ]

pub returns-after-is_joined-clause-clash : goal.returns-after-is_joined-clause-clash
returns-after-is_joined-clause-clash c kept found differs =
    let text = c.args.front.now ++ c.args.rest.now in
    let here : c.in-Some.kept.now ≡ kept =
    same_Some c.in-Some.kept.now kept (c.in-Some.ensures.value ∙ ap (λ (p : Texts). text_under p c.args.digest) c.self.view_is ∙ found) in
    elim c.if-is_joined.branch [
      | then-is_joined w ↦
          absurd (differs (sym here ∙ sym c.as_slice.ensures.value ∙ (bytes_eq-Decides c.as_slice.result.now text).0 (sym c.is_joined.ensures ∙ w.if-is_joined.true)))
      | else-is_joined w ↦ rw w.result-is refl
    ]
