-- How many replicas pass a test.
use Rattle.std.specs.Prelude.{ℕ, suc, zero, ◌+◌, Bool, cond}

-- of the numbers below n
abbrev pub count_below : ℕ → (ℕ → Bool) → ℕ
count_below zero test = 0
count_below (suc n) test = cond (test n) 1 0 + count_below n test
