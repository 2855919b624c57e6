-- Under the analyses of the rules D, J and L, what is asked means what the rule means. Assumes nothing.
--   RuleD   the analysis WithoutJitter over counts_D: bound, floor and ceiling are bound_by counts_D
--   RuleJ   the analysis WithJitter: bound_J, bound_D as the floor, ceiling_J
--   RuleL   the analysis WithoutJitter over counts_L: bound, floor and ceiling are bound_by counts_L
use Rattle.std.specs.Prelude.{◌≡◌, ℕ, List, refl}
use Rattle.chip.specs.declared.parameters.FlowParameters.{FlowParameters}
use Rattle.interference.specs.Promises.{equation_D, equation_L}
use Rattle.interference.specs.Rules.{bound_D, ceiling_J, bound_J, counts_L, meaning_D, meaning_J, meaning_L}
use Rattle.latency.specs.Analyses.{meaning_of, counts_D, bound_by, equation_by}

-- rule D counts the direct flows
pub analysis_D : (fs : List FlowParameters) → meaning_of (bound_by counts_D) (bound_by counts_D) (bound_by counts_D) fs ≡ meaning_D fs
analysis_D fs = refl

pub solves_D : (fs : List FlowParameters) (f : ℕ) (above : List ℕ) → equation_by counts_D fs f above ≡ equation_D fs f above
solves_D fs f above = refl

-- rule L counts the direct flows and the indirect ones
pub analysis_L : (fs : List FlowParameters) → meaning_of (bound_by counts_L) (bound_by counts_L) (bound_by counts_L) fs ≡ meaning_L fs
analysis_L fs = refl

pub solves_L : (fs : List FlowParameters) (f : ℕ) (above : List ℕ) → equation_by counts_L fs f above ≡ equation_L fs f above
solves_L fs f above = refl

-- rule J tells the bound of rule D as a floor
pub analysis_J : (fs : List FlowParameters) → meaning_of bound_J bound_D ceiling_J fs ≡ meaning_J fs
analysis_J fs = refl
