-- What the loop of `near_of` keeps. Assumes nothing.
use Rattle.std.proofs.Common.{◌≡◌, ℕ, true, length}
use Rattle.rule.specs.Lists.{is_flow}
use Rattle.interference.specs.Tables.{row, routed, sharers}
use Rattle.latency.proofs.traffic.making.near_of.Given as goal

abbrev pub invariant-loop-place : goal.invariant-loop-place
invariant-loop-place l = (length l.near ≡ 20) × ((f : ℕ) → is_flow l.place f ≡ true → row l.near f ≡ sharers (routed l.routes) f (length l.routes))
