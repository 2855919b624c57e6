-- The table that rule J fills from the highest flow of a list downward. Assumes nothing.
--   Holds        what the table has for each flow of a list, lowest first
--   Settling     the first k flows of a list are settled
--   jitter_by    the interference jitter that the table gives
use Rattle.std.specs.Prelude.{◌≡◌, ℕ, ◌-◌, ◌≤◌, true, cond, List, [], ◌∷◌, reverse, length, take, Some}
use Rattle.chip.specs.declared.parameters.FlowParameters.{FlowParameters}
use Rattle.rule.specs.Lists.{marks, has, within}
use Rattle.rule.specs.FlowSets.{marks_of, members}
use Rattle.rule.specs.Meaning.{leading}
use Rattle.rule.specs.Questions.{table}
use Rattle.latency.specs.declared.settled.Settled.{Settled}
use Rattle.latency.specs.Settlements.{overs_in, bounds_in}
use Rattle.interference.specs.Interference.{flow, disturbed}
use Rattle.interference.specs.Rules.{solution_J, meaning_J}
use Rattle.interference.specs.Tables.{row, of_flow}

-- for each flow of a list, lowest first, the table has the set of those above it, and its solution under them
abbrev pub Holds : List FlowParameters → Settled → List ℕ → Type 0
Holds fs s [] = Unit {0}
Holds fs s (j ∷ above) = (row (overs_in s.table) j ≡ marks above) × (solution_J fs j above ≡ Some (of_flow (bounds_in s.table) j)) × Holds fs s above

-- the first k flows of a list have bounds; these are told, and in the table
pub record Settling (fs : List FlowParameters) (list : List ℕ) (k : ℕ) (s : Settled) : Type 0 where
  pub bounded : k ≤ length (leading (meaning_J fs) [] list)
  pub told : s.told ≡ table (take k (leading (meaning_J fs) [] list))
  pub above : marks_of s.above ≡ marks (take k list)
  pub holds : Holds fs s (reverse (take k list))

-- the interference jitter of flow j with respect to f: its bound less its latency, if a flow above it disturbs it
abbrev pub jitter_by : List FlowParameters → Settled → ℕ → ℕ → ℕ
jitter_by fs s f j = cond (disturbed fs f (members (row (overs_in s.table) j)) j) (of_flow (bounds_in s.table) j - (flow fs j).latency) 0

-- every flow that is settled, and every flow above one, is a flow of 1 to n
abbrev pub Ready : ℕ → Settled → Type 0
Ready n s = (within n (marks_of s.above) ≡ true) × ((j : ℕ) → has (marks_of s.above) j ≡ true → within n (row (overs_in s.table) j) ≡ true)
