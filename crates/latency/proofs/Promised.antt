-- What the bound of rule J tells, in the words of its equation. Assumes nothing.
use Rattle.std.proofs.Common.{◌≡◌, ℕ, Bool, true, false, cond, List, [], ◌∷◌, ◌++◌, reverse, is_some, Some, None, Ok, Option, sym, refl, ap, ◌∙◌, inl, inr, append_assoc, arith}
use mathlib.Core.List.{reverse-append}
use Rattle.std.proofs.lemmas.Bool.{and_parts}
use Rattle.chip.specs.declared.parameters.FlowParameters.{FlowParameters}
use Rattle.rule.specs.Meaning.{Passes, PassesUnder}
use Rattle.interference.specs.Interference.{flow, delayed}
use Rattle.interference.specs.Promises.{equation_J, ToldJ}
use Rattle.interference.specs.Rules.{solution_J, all_settled, bound_J, meaning_J}
use Rattle.interference.specs.Solution.{Least}
use Rattle.interference.proofs.Fixed.{least_is}
use Rattle.interference.proofs.LawsOfJ.{bound_J_is, passes_settled}
use Rattle.latency.proofs.Settles.{settled_first}

-- where the flows of a list have solutions, each has a bound under those before it
settled_passes : (fs : List FlowParameters) (above levels : List ℕ) → all_settled fs (reverse (above ++ levels)) ≡ true → PassesUnder (meaning_J fs) above levels
settled_passes fs above [] ok = tt
settled_passes fs above (f ∷ levels) ok =
    let regrouped : all_settled fs (reverse ((above ++ f ∷ []) ++ levels)) ≡ true = ap (λ xs. all_settled fs (reverse xs)) (append_assoc above (f ∷ []) levels) ∙ ok in
    let first : all_settled fs (f ∷ reverse above) ≡ true = ap (all_settled fs) (sym (reverse-append above (f ∷ []))) ∙ settled_first fs (above ++ f ∷ []) levels regrouped in
    let parts = and_parts (is_some (solution_J fs f (reverse above))) (all_settled fs (reverse above)) first in
    (ap is_some (bound_J_is fs f above parts.1) ∙ parts.0, settled_passes fs (above ++ f ∷ []) levels regrouped)

-- a solution is told, or that there is none, once every flow above has a bound
told_solution : (fs : List FlowParameters) (f : ℕ) (above : List ℕ) (o : Option ℕ) → Passes (meaning_J fs) above → Least (equation_J fs f above) (flow fs f).deadline o → ToldJ fs f above (Ok o)
told_solution fs f above (Some r) passes h = (passes, h)
told_solution fs f above None passes h = inr h

-- rule J tells the least solution of its equation, or a named reason why there is none
pub told_J : (fs : List FlowParameters) (f : ℕ) (above : List ℕ) → ToldJ fs f above (Ok (bound_J fs f above))
told_J fs f above = go (all_settled fs (reverse above)) refl
  where
    go : (b : Bool) → all_settled fs (reverse above) ≡ b → ToldJ fs f above (Ok (cond b (solution_J fs f (reverse above)) None))
    go true e = told_solution fs f above (solution_J fs f (reverse above)) (settled_passes fs [] above e) (least_is (flow fs f).latency (flow fs f).deadline (delayed fs f (reverse above)))
    go false e = inl (λ passes. let ok = passes_settled fs [] above refl passes in let z : ◌≡◌ {A = ℕ} 0 1 = cc in omega arith)
