-- The pairs that a precedence holds. Assumes nothing.
use Rattle.std.specs.Prelude.{ℕ, cond, List, [], ◌∷◌, ◌++◌, is_ok}
use Rattle.precedence.specs.declared.pair.Pair.{Pair}
use Rattle.precedence.specs.declared.pairs.Pairs.{Pairs}
use Rattle.precedence.specs.Pairs.{add_reply}

-- the pairs, in the order in which they came
abbrev pub pairs_of : Pairs → List Pair
pairs_of s = s.list.items

-- the pairs after one more was offered: a refused pair changes nothing
abbrev pub after_add : ℕ → List Pair → Pair → List Pair
after_add n ps p = cond (is_ok (add_reply n ps p)) (ps ++ p ∷ []) ps
