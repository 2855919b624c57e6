-- What a flow keeps, since no rule refuses its parameters. Assumes nothing.
use Rattle.std.proofs.Common.{◌≡◌, ◌≢◌, ◌<◌, ◌≤◌, true, arith}
use Rattle.std.proofs.lemmas.Bool.Decides.{nat_tests}
use Rattle.chip.specs.declared.flow.Flow.{Flow}
use Rattle.chip.specs.Flows.{on_mesh}

-- the times of a flow
pub flow_times : (f : Flow) → (1 ≤ f.parameters.latency) × (f.parameters.latency ≤ f.parameters.deadline) × (f.parameters.deadline ≤ f.parameters.period) × (f.parameters.period ≤ 1000000) × (f.parameters.jitter < f.parameters.period)
flow_times f = let h = f.sound in grind (arith, nat_tests)

-- its endpoints lie on the mesh
pub from_mesh : (f : Flow) → on_mesh f.parameters.source ≡ true
from_mesh f = let h = f.sound in grind (arith, nat_tests)

pub to_mesh : (f : Flow) → on_mesh f.parameters.destination ≡ true
to_mesh f = let h = f.sound in grind (arith, nat_tests)

pub flow_placed : (f : Flow) → (f.parameters.source.column < 6) × (f.parameters.source.row < 6) × (f.parameters.destination.column < 6) × (f.parameters.destination.row < 6)
flow_placed f = let h = f.sound in grind (arith, nat_tests)

-- they differ
pub flow_apart : (f : Flow) → f.parameters.source.column ≡ f.parameters.destination.column → f.parameters.source.row ≢ f.parameters.destination.row
flow_apart f same row = let h = f.sound in absurd (grind (arith, nat_tests))

-- its label is no 0
pub flow_labelled : (f : Flow) → 1 ≤ f.parameters.label
flow_labelled f = let h = f.sound in grind (arith, nat_tests)
