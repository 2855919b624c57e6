-- When two pairs of labels are equal: in both. Assumes nothing.
use Rattle.std.specs.Prelude.{Bool, nat_eq, ◌&&◌}
use Rattle.sheet.specs.declared.pair.Pair.{Pair}

-- pairs with the same first and the same later label
abbrev pub pair_eq : Pair → Pair → Bool
pair_eq a b = nat_eq a.first b.first && nat_eq a.later b.later
