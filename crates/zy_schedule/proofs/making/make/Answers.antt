use Rattle.std.proofs.Common.{◌≡◌, ◌+◌, ◌++◌, length, length-append, ap, ◌∙◌, arith}
use Rattle.std.proofs.lemmas.List.Elements.{All-nil}
use Rattle.zy_schedule.specs.Making.{drawn, lines_of_ask, made_lines, next_number}
use Rattle.zy_schedule.specs.Texts.{IsSaid}
use Rattle.zy_schedule.proofs.MadeLaws.{ask_said, drawn_next, drawn_start, made_next}
use Rattle.zy_schedule.proofs.making.make.Goals as goal

pub loop-n-init : goal.loop-n-init
loop-n-init c = record {
  made = c.new-lines.ensures.items;
  said = rw c.new-lines.ensures.items (All-nil IsSaid);
  two_each = ap length c.new-lines.ensures.items;
  draw = rw c.from-draw.ensures (drawn_start c.args.number);
  below = omega arith;
}

pub loop-n-preserved : goal.loop-n-preserved
loop-n-preserved c =
    let held = c.loop-n.invariant in
    let number = c.args.number in
    let n = c.loop-n.n in
    let draw : c.next_number-draw.result ≡ drawn number (n + 1) = c.next_number-draw.ensures.next ∙ ap next_number held.draw ∙ drawn_next number n in
    record {
      made =
          c.in_ok-put_ask.ensures ∙ ap (λ lines. lines ++ lines_of_ask c.next_number-draw.result n) held.made
          ∙ ap (λ d. made_lines number n ++ lines_of_ask d n) draw ∙ made_next number n;
      said = rw c.in_ok-put_ask.ensures (ask_said c.next_number-draw.result n c.loop-n.lines.items (omega arith) held.said);
      two_each =
          omega (arith, ap length c.in_ok-put_ask.ensures, length-append c.loop-n.lines.items (lines_of_ask c.next_number-draw.result n), held.two_each);
      draw = draw;
      below = c.next_number-draw.ensures.below;
    }
