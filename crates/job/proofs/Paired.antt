-- One more pair beside those that a job has. Assumes nothing.
use Rattle.std.proofs.Common.{◌≡◌, ◌<◌, ◌≤◌, true, List, [], ◌∷◌, ◌++◌, length, refl, ◌∙◌, arith, length-append}
use Rattle.std.proofs.lemmas.Bool.{and_from}
use Rattle.std.proofs.lemmas.List.Folds.{list_all-append}
use Rattle.chip.specs.declared.parameters.FlowParameters.{FlowParameters}
use Rattle.sheet.specs.declared.pair.Pair.{Pair}
use Rattle.sheet.specs.Pairs.{pair_holds, pairs_hold}

-- what is true of the pairs of each job
abbrev pub Sound : List FlowParameters → List Pair → Type 0
Sound ps qs = (length qs ≤ 16) × (pairs_hold ps qs ≡ true)

pub sound_push : (ps : List FlowParameters) (qs : List Pair) (q : Pair) → Sound ps qs → pair_holds ps q ≡ true → length qs < 16 → Sound ps (qs ++ q ∷ [])
sound_push ps qs q h e room =
    let long = length-append qs (q ∷ []) in
    (omega (arith, long), list_all-append (pair_holds ps) qs (q ∷ []) ∙ and_from _ _ h.1 (and_from _ _ e refl))
