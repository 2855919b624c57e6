-- What the bound that a rule tells is, in the words of its equation. Assumes nothing.
--   equation_D, equation_L, equation_J    the right side of a rule's equation, by the time r
--   Told, ToldJ                          a reply tells the least solution within the deadline, or that there is none
use Rattle.std.specs.Prelude.{ℕ, ◌≤◌, ◌⊎◌, List, reverse, Some, None, Ok, Err, Option, Result, ◌≢◌}
use Rattle.chip.specs.declared.refusal.Refusal.{Refusal}
use Rattle.chip.specs.declared.parameters.FlowParameters.{FlowParameters}
use Rattle.rule.specs.Meaning.{Passes}
use Rattle.interference.specs.Solution.{demand, LeastFixed, Least}
use Rattle.interference.specs.Interference.{flow, direct, counted, delayed}
use Rattle.interference.specs.Rules.{none_extra, counts_L, meaning_J}

-- the equation of rule D: the latency of f, and what the direct flows above it take within r ticks
abbrev pub equation_D : List FlowParameters → ℕ → List ℕ → ℕ → ℕ
equation_D fs f above r = demand (flow fs f).latency (counted fs (direct fs f) none_extra above) r

-- the equation of rule L: the latency of f, and what the direct and indirect flows above it take within r ticks
abbrev pub equation_L : List FlowParameters → ℕ → List ℕ → ℕ → ℕ
equation_L fs f above r = demand (flow fs f).latency (counted fs (counts_L fs f above) none_extra above) r

-- an answered question tells the least number within the limit that solves r = g r, and nothing exactly if none does
abbrev pub Told : (ℕ → ℕ) → ℕ → Result (Option ℕ) Refusal → Type 0
Told g limit (Ok o) = Least g limit o
Told g limit (Err e) = Unit {0}

-- the equation of rule J: the latency of f, and what the direct flows above it take within r ticks, each with its
-- interference jitter
abbrev pub equation_J : List FlowParameters → ℕ → List ℕ → ℕ → ℕ
equation_J fs f above r = demand (flow fs f).latency (delayed fs f (reverse above)) r

-- Rule J tells a bound exactly if each flow above has one under those above it, and the equation has a solution
-- within the deadline; it is the least.
abbrev pub ToldJ : List FlowParameters → ℕ → List ℕ → Result (Option ℕ) Refusal → Type 0
ToldJ fs f above (Ok (Some r)) = Passes (meaning_J fs) above × LeastFixed (equation_J fs f above) (flow fs f).deadline r
ToldJ fs f above (Ok None) = (Passes (meaning_J fs) above → ⊥) ⊎ ((r : ℕ) → r ≤ (flow fs f).deadline → r ≢ equation_J fs f above r)
ToldJ fs f above (Err e) = Unit {0}
