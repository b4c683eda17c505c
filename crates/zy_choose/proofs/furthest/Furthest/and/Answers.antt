use Rattle.std.proofs.Common.{rules}
use Rattle.zy_choose.specs.Marks.{mark_of}
use Rattle.zy_choose.proofs.FurthestLemmas.{IsOne-further, IsOne-same, IsOne-behind, IsTwo-other, IsTwo-more}
use Rattle.zy_choose.proofs.furthest.Furthest.and.Goals as goal
use Rattle.zy_choose.proofs.furthest.Furthest.and.Goals.{else-eq-via-then-eq+else-ne, else-eq-via-else-eq}

pub returns-then-lt : goal.returns-then-lt
returns-then-lt c = λ marks seen.
    let one = rw c.in-One.is at seen in
    IsOne-further c.in-One.place.0 marks (mark_of c.args.mark.now) one.furthest (search rules)

pub returns-then-ne : goal.returns-then-ne
returns-then-ne c = λ marks seen.
    let one = rw c.in-One.is at seen in
    IsTwo-other c.in-One.place.0 c.in-One.head marks (mark_of c.args.mark.now) one (search rules) (search rules)

pub returns-else-eq : goal.returns-else-eq
returns-else-eq c = λ marks seen.
    let one = rw c.in-One.is at seen in
    elim c.else-eq.branch [
      | else-eq-via-then-eq+else-ne w ↦ IsOne-same c.in-One.place.0 c.in-One.head marks (mark_of c.args.mark.now) one (search rules) (search rules)
      | else-eq-via-else-eq w ↦ IsOne-behind c.in-One.place.0 c.in-One.head marks (mark_of c.args.mark.now) one (search rules)
    ]

pub returns-then-lt-2 : goal.returns-then-lt-2
returns-then-lt-2 c = λ marks seen.
    let two = rw c.in-Two.is at seen in
    IsOne-further c.in-Two.place.0 marks (mark_of c.args.mark.now) two.furthest (search rules)

pub returns-else-lt-2 : goal.returns-else-lt-2
returns-else-lt-2 c = λ marks seen.
    let two = rw c.in-Two.is at seen in
    IsTwo-more c.in-Two.place.0 c.in-Two.field-1 c.in-Two.field-2 marks (mark_of c.args.mark.now) two (search rules)
