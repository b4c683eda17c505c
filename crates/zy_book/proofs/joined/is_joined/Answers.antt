use Rattle.std.proofs.Common.{ℕ, ◌&&◌, Bool, List, length, drop, sym, ap, ◌∙◌}
use Rattle.std.specs.Str.{bytes_eq}
use Rattle.zy_book.proofs.PieceLemmas.{eq_joined}
use Rattle.zy_book.proofs.joined.is_joined.Goals as goal

pub returns-in-Some : goal.returns-in-Some
returns-in-Some c =
    let text = c.args.text.now in
    let front = c.args.front.now in
    let rest = c.args.rest.now in
    c.eq.ensures
    ∙ ap (λ (l : List ℕ). bytes_eq l rest) c.in-Some.ensures.cases.1
    ∙ ap (λ (b : Bool). b && bytes_eq (drop (length front) text) rest) (sym c.in-Some.ensures.cases.0)
    ∙ sym (eq_joined front rest text)

pub returns-in-None : goal.returns-in-None
returns-in-None c =
    let text = c.args.text.now in
    let front = c.args.front.now in
    let rest = c.args.rest.now in
    ap (λ (b : Bool). b && bytes_eq (drop (length front) text) rest) (sym c.in-None.ensures.cases)
    ∙ sym (eq_joined front rest text)
