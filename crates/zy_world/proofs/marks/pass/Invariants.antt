use Rattle.std.proofs.Common.{◌≡◌, ◌≤◌, length, ◌-◌}
use Rattle.zy_world.specs.Passed.{ArePast}
use Rattle.zy_world.proofs.marks.pass.Given as goal

abbrev pub invariant-loop-bag : goal.invariant-loop-bag
invariant-loop-bag g l =
    (l.bag-inside.mails.items ≡ l.fn.bag.mails)
    × (l.bag-inside.passed.idle ≤ length l.fn.bag.mails)
    × (l.bag-inside.passed.past ≤ length l.fn.bag.mails)
    × (ArePast l.seats l.muted l.fn.bag → ArePast l.seats l.muted (record { mails = l.fn.bag.mails; passed = record { past = l.bag-inside.passed.past; idle = l.bag-inside.passed.idle } }))

abbrev pub decreases-loop-bag : goal.decreases-loop-bag
decreases-loop-bag g l = length l.fn.bag.mails - l.bag-inside.passed.idle
