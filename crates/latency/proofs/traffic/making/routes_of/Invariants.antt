-- What the loop of `routes_of` keeps. Assumes nothing.
use Rattle.std.proofs.Common.{◌≡◌, map, length, take}
use Rattle.interference.specs.Tables.{routed}
use Rattle.latency.proofs.traffic.making.routes_of.Given as goal

abbrev pub invariant-loop-place : goal.invariant-loop-place
invariant-loop-place l = (length l.routes ≡ 20) × (take l.place (routed l.routes) ≡ take l.place (map (λ f. f.parameters) l.flows))
