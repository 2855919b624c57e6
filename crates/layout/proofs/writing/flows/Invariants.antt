use Rattle.std.proofs.Common.{◌≡◌, ◌++◌, map, take}
use Rattle.std.specs.List.{flat_map}
use Rattle.sheet.specs.Flows.{said}
use Rattle.layout.specs.Layout.{flow_bytes}
use Rattle.layout.proofs.writing.flows.Given as goal

abbrev pub invariant-loop-flow : goal.invariant-loop-flow
invariant-loop-flow l = l.page ≡ l.initial.page ++ flat_map flow_bytes (take l.flow-index (map said l.flow-items))
