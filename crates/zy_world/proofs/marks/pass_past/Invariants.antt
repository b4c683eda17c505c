use Rattle.std.proofs.Common.{◌≡◌, ◌≤◌, length, ◌-◌}
use Rattle.zy_world.specs.Passed.{ArePast}
use Rattle.zy_world.specs.Shown.{Mutes}
use Rattle.zy_world.proofs.marks.pass_past.Given as goal

abbrev pub invariant-loop-bag : goal.invariant-loop-bag
invariant-loop-bag g l =
    (l.bag-inside.mails.items ≡ l.fn.bag.mails)
    × (l.bag-inside.passed.past ≤ length l.fn.bag.mails)
    × (l.bag-inside.passed.idle ≤ length l.fn.bag.mails)
    × ((mutes : Mutes) → ArePast l.seats mutes l.fn.bag
    → ArePast l.seats mutes (record { mails = l.fn.bag.mails; passed = record { past = l.bag-inside.passed.past; idle = l.bag-inside.passed.idle } }))

abbrev pub decreases-loop-bag : goal.decreases-loop-bag
decreases-loop-bag g l = length l.fn.bag.mails - l.bag-inside.passed.past
