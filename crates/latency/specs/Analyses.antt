-- What a rule answers, by how the flows above a flow delay it. Assumes nothing.
--   meaning_of    all answers of a rule, by its bound, floor and ceiling under a list of flows
--   counts_D      which flows rule D counts
--   bound_by      the bound where the flows that count come without interference jitter
--   equation_by   the right side of its equation
use Rattle.std.specs.Prelude.{ℕ, Bool, List, length, Option}
use Rattle.chip.specs.declared.parameters.FlowParameters.{FlowParameters}
use Rattle.rule.specs.Meaning.{Meaning}
use Rattle.rule.specs.FlowSets.{members}
use Rattle.interference.specs.Interference.{flow, direct, counted, settled}
use Rattle.interference.specs.Rules.{none_extra}
use Rattle.interference.specs.Solution.{demand}

-- all answers of a rule on a chip: its bound under a list of flows, its floor and ceiling under the flows of a set
abbrev pub meaning_of : (bound floor ceiling : List FlowParameters → ℕ → List ℕ → Option ℕ) → List FlowParameters → Meaning
meaning_of bound floor ceiling fs = record { flows = length fs; deadline = λ f. (flow fs f).deadline; label = λ f. (flow fs f).label; bound = bound fs; floor = λ f set. floor fs f (members set); ceiling = λ f set. ceiling fs f (members set) }

-- rule D counts the direct flows, whatever else is above
abbrev pub counts_D : List FlowParameters → ℕ → List ℕ → ℕ → Bool
counts_D fs f above j = direct fs f j

-- the least solution within the deadline where the flows of a list that count come without interference jitter
abbrev pub bound_by : (List FlowParameters → ℕ → List ℕ → ℕ → Bool) → List FlowParameters → ℕ → List ℕ → Option ℕ
bound_by counts fs f above = settled fs f (counted fs (counts fs f above) none_extra above)

-- the equation that it solves: the latency of f, and what the flows that count take within r ticks
abbrev pub equation_by : (List FlowParameters → ℕ → List ℕ → ℕ → Bool) → List FlowParameters → ℕ → List ℕ → ℕ → ℕ
equation_by counts fs f above r = demand (flow fs f).latency (counted fs (counts fs f above) none_extra above) r
