use Rattle.std.proofs.Common.{◌≡◌, ◌++◌, take}
use Rattle.std.specs.List.{flat_map}
use Rattle.layout.specs.Layout.{pair_bytes}
use Rattle.layout.proofs.writing.pairs.Given as goal

abbrev pub invariant-loop-pair : goal.invariant-loop-pair
invariant-loop-pair l = l.page ≡ l.initial.page ++ flat_map pair_bytes (take l.pair-index l.pair-items)
