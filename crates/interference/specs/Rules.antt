-- The rules D, J and L: what each answers, by the flows of the chip. Assumes nothing.
--   solution_D, solution_L, solution_J    the least solution of the rule's equation within the deadline
--   bound_D, bound_L, bound_J             the bound told of a flow under the list of those above it
--   ceiling_J                             what rule J tells of a set at most
--   meaning_D, meaning_L, meaning_J       all answers of the rule
use Rattle.std.specs.Prelude.{ℕ, ◌-◌, Bool, true, cond, ◌&&◌, ◌||◌, List, [], ◌∷◌, reverse, length, is_some, None, Option}
use Rattle.chip.specs.declared.parameters.FlowParameters.{FlowParameters}
use Rattle.rule.specs.Meaning.{Meaning}
use Rattle.rule.specs.FlowSets.{members}
use Rattle.interference.specs.Interference.{flow, direct, indirect, disturbed, counted, settled, delayed}

-- no interference jitter
abbrev pub none_extra : ℕ → ℕ
none_extra j = 0

-- rule D counts the direct flows
abbrev pub solution_D : List FlowParameters → ℕ → List ℕ → Option ℕ
solution_D fs f above = settled fs f (counted fs (direct fs f) none_extra above)

-- the bound told under rule D is the solution
abbrev pub bound_D : List FlowParameters → ℕ → List ℕ → Option ℕ
bound_D fs f above = solution_D fs f above

-- whether rule L counts flow j: it is direct or indirect
abbrev pub counts_L : List FlowParameters → ℕ → List ℕ → ℕ → Bool
counts_L fs f above j = direct fs f j || indirect fs f above j

-- rule L counts the direct flows and the indirect ones
abbrev pub solution_L : List FlowParameters → ℕ → List ℕ → Option ℕ
solution_L fs f above = settled fs f (counted fs (counts_L fs f above) none_extra above)

-- the bound told under rule L is the solution
abbrev pub bound_L : List FlowParameters → ℕ → List ℕ → Option ℕ
bound_L fs f above = solution_L fs f above

-- rule J counts the direct flows, each with its interference jitter; `above` lowest first
abbrev pub solution_J : List FlowParameters → ℕ → List ℕ → Option ℕ
solution_J fs f above = settled fs f (delayed fs f above)

-- whether every flow of a list, lowest first, has a solution under those above it
abbrev pub all_settled : List FlowParameters → List ℕ → Bool
all_settled fs [] = true
all_settled fs (j ∷ above) = is_some (solution_J fs j above) && all_settled fs above

-- the bound told under rule J is the solution, if no flow above is without one; `above` highest first
abbrev pub bound_J : List FlowParameters → ℕ → List ℕ → Option ℕ
bound_J fs f above = cond (all_settled fs (reverse above)) (solution_J fs f (reverse above)) None

-- the most interference jitter of a direct flow j: as late as its deadline lets it come, if another flow of the list
-- disturbs it; j itself shares with f, so it is never the other
abbrev pub ceiling_extra : List FlowParameters → ℕ → List ℕ → ℕ → ℕ
ceiling_extra fs f above j = cond (disturbed fs f above j) ((flow fs j).deadline - (flow fs j).latency) 0

-- the ceiling of rule J counts the direct flows, each with the most jitter that it may have
abbrev pub ceiling_J : List FlowParameters → ℕ → List ℕ → Option ℕ
ceiling_J fs f above = settled fs f (counted fs (direct fs f) (ceiling_extra fs f above) above)

-- all answers of rule D; its floor and ceiling are the bound under the set's flows in any order
abbrev pub meaning_D : List FlowParameters → Meaning
meaning_D fs = record { flows = length fs; deadline = λ f. (flow fs f).deadline; label = λ f. (flow fs f).label; bound = bound_D fs; floor = λ f set. bound_D fs f (members set); ceiling = λ f set. bound_D fs f (members set) }

-- all answers of rule L; its floor and ceiling are the bound under the set's flows in any order
abbrev pub meaning_L : List FlowParameters → Meaning
meaning_L fs = record { flows = length fs; deadline = λ f. (flow fs f).deadline; label = λ f. (flow fs f).label; bound = bound_L fs; floor = λ f set. bound_L fs f (members set); ceiling = λ f set. bound_L fs f (members set) }

-- all answers of rule J; its floor is the bound of rule D under the set's flows
abbrev pub meaning_J : List FlowParameters → Meaning
meaning_J fs = record { flows = length fs; deadline = λ f. (flow fs f).deadline; label = λ f. (flow fs f).label; bound = bound_J fs; floor = λ f set. bound_D fs f (members set); ceiling = λ f set. ceiling_J fs f (members set) }
