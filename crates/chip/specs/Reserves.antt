-- When a reserve is refused. Assumes nothing.
use Rattle.std.specs.Prelude.{ℕ, cond, nat_le}

-- a reserve is 0 to 1,000,000 ticks
abbrev pub reserve_fault : ℕ → ℕ
reserve_fault ticks = cond (nat_le ticks 1000000) 0 10
