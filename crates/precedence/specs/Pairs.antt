-- The precedence layer: pairs (first, later) of flows, the first of which gets nothing under the later one. Assumes nothing.
--   laters, held_back   the flows that a flow must precede, and whether one of them is above it
--   with_pairs          a rule with such pairs
--   add_reply           what adding a pair answers
use Rattle.std.specs.Prelude.{ℕ, zero, suc, Bool, cond, not, ◌&&◌, List, [], ◌∷◌, length, None, Ok, Err, Result, ◌==◌, nat_lt}
use Rattle.std.specs.List.{list_any}
use Rattle.chip.specs.declared.refusal.Refusal.{Refusal}
use Rattle.chip.specs.declared.refusal.Refusal.TheVariants.{PairUnknown, TooManyPairs}
use Rattle.rule.specs.Lists.{is_flow, among, marks, has}
use Rattle.rule.specs.Meaning.{Meaning}
use Rattle.precedence.specs.declared.pair.Pair.{Pair}

-- the later flows of the pairs whose first flow is f
abbrev pub laters : List Pair → ℕ → List ℕ
laters [] f = []
laters (p ∷ ps) f = cond (p.first == f) (p.later ∷ laters ps f) (laters ps f)

-- whether f is the first flow of a pair whose later flow is above it
abbrev pub held_back : List Pair → ℕ → (ℕ → Bool) → Bool
held_back ps f above = list_any above (laters ps f)

-- a rule whose flows get nothing where a pair holds them back; everything else comes from below
abbrev pub with_pairs : List Pair → Meaning → Meaning
with_pairs ps m =
    record {
      flows = m.flows;
      deadline = m.deadline;
      label = m.label;
      bound = λ f above. cond (held_back ps f (λ g. among g above)) None (m.bound f above);
      floor = λ f set. cond (held_back ps f (has set)) None (m.floor f set);
      ceiling = λ f set. cond (held_back ps f (has set)) None (m.ceiling f set);
    }

-- for each of k flows from i up, the set of the flows that it must precede
unfoldable pub later_sets : ℕ → ℕ → List Pair → List (List Bool)
later_sets zero i ps = []
later_sets (suc k) i ps = marks (laters ps i) ∷ later_sets k (suc i) ps

-- whether a pair names two different flows of 1 to n
abbrev pub two_flows : ℕ → Pair → Bool
two_flows n p = is_flow n p.first && is_flow n p.later && not (p.first == p.later)

-- a pair is refused unless it names two different flows, and then if it is the 17th
abbrev pub add_reply : ℕ → List Pair → Pair → Result (Unit {0}) Refusal
add_reply n ps p = cond (two_flows n p) (cond (nat_lt (length ps) 16) (Ok tt) (Err TooManyPairs)) (Err PairUnknown)
