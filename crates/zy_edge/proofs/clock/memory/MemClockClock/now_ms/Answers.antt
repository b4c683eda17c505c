use Rattle.std.proofs.Common.{◌≡◌, ℕ, ◌<◌, ◌^◌, sym, subst, arith}
use Rattle.zy_edge.specs.Clock.{moment_at}
use Rattle.zy_edge.proofs.ClockLemmas.{moment_below, reading_told}
use Rattle.zy_edge.proofs.clock.memory.MemClockClock.now_ms.Goals as goal

pub returns-clause-in_range : goal.returns-clause-in_range
returns-clause-in_range c =
    let is : c.moment_of-moment.result ≡ moment_at c.self.inside.moments.items c.self.inside.readings = cc in
    subst (λ (n : ℕ). n < 2 ^ 62) (sym is) (moment_below c.self.inside.moments.items c.self.inside.readings c.self.invariant)

pub returns-clause-moments : goal.returns-clause-moments
returns-clause-moments c =
    let is : c.moment_of-moment.result ≡ moment_at c.self.inside.moments.items c.self.inside.readings = cc in
    reading_told (record { moments = c.self.inside.moments.items; readings = c.self.inside.readings }) c.args.self.now c.moment_of-moment.result c.raised-self-inside.result (omega arith) c.self.view_is is c.raised-self-inside.ensures
