-- What is said of the flows of a sheet, one by one, and one flow more. Assumes nothing.
use Rattle.std.proofs.Common.{◌≡◌, ℕ, ◌+◌, ◌≤◌, ◌<◌, length, true, false, not, ◌||◌, Bool, eqb, List, [], ◌∷◌, ◌++◌, map, sym, refl, ap, ◌∙◌, add-one, Decides, subst, arith, length-append}
use Rattle.std.proofs.lemmas.List.{length-map, map_push}
use Rattle.std.specs.List.{list_any, slice_get}
use Rattle.std.specs.Cmp.Lexicographic.{pointwise, pointwise_decides}
use Rattle.std.specs.Cmp.Derive.Mapped.{pointwise-map}
use Rattle.std.proofs.lemmas.List.Folds.{list_any-append}
use Rattle.std.proofs.lemmas.Option.{slice_get-map}
use Rattle.std.proofs.lemmas.Bool.{eq-eqb, ne_eqb, both_ways, or_from, or_parts, and_parts, and_from, not-true, not_from_false}
use Rattle.chip.proofs.Equal.{flow_decides}
use Rattle.chip.specs.contracts.flow.FlowPartialEq.TheImpl as flow
use Rattle.chip.specs.contracts.parameters.FlowParametersPartialEq.TheImpl as parameters
use Rattle.chip.specs.declared.flow.Flow.{Flow}
use Rattle.chip.specs.declared.parameters.FlowParameters.{FlowParameters}
use Rattle.sheet.specs.Flows.{said, said_of, labelled, distinct_labels, flow_numbered}

pub any_said : (p : FlowParameters → Bool) (fs : List Flow) → list_any (λ f. p (said f)) fs ≡ list_any p (map said fs)
any_said p [] = refl
any_said p (f ∷ fs) = ap (λ b. p (said f) || b) (any_said p fs)

-- the flow at place i has number i + 1
pub flow_told : (fs : List Flow) (i : ℕ) → said_of (slice_get fs i) ≡ flow_numbered (i + 1) (map said fs)
flow_told fs i = sym (slice_get-map said fs i) ∙ ap (λ n. flow_numbered n (map said fs)) (sym (add-one i))

-- `==` of two lists of flows tells whether the same is said of them
pub flows_decide : (fs gs : List Flow) → Decides (pointwise (flow.ghosts).eq fs gs) (map said fs ≡ map said gs)
flows_decide fs gs =
    let same : pointwise (flow.ghosts).eq fs gs ≡ pointwise (parameters.ghosts).eq (map said fs) (map said gs) = sym (pointwise-map said (parameters.ghosts).eq fs gs) in
    let told = pointwise_decides flow_decides (map said fs) (map said gs) in
    (λ e. told.0 (sym same ∙ e), λ e. same ∙ told.1 e)

eqb_turned : (a b : ℕ) → eqb a b ≡ false → eqb b a ≡ false
eqb_turned a b e = ne_eqb b a (λ h. absurd (both_ways (eqb a b) e (eq-eqb a b (sym h))))

-- one flow more, with a label of its own
pub distinct_push : (ps : List FlowParameters) (p : FlowParameters) → distinct_labels ps ≡ true → labelled p.label ps ≡ false → distinct_labels (ps ++ p ∷ []) ≡ true
distinct_push [] p d h = refl
distinct_push (q ∷ ps) p d h =
    let parts = and_parts (not (labelled q.label ps)) (distinct_labels ps) d in
    let apart = or_parts (eqb p.label q.label) (labelled p.label ps) h in
    let fresh : labelled q.label (ps ++ p ∷ []) ≡ false =
    list_any-append _ ps (p ∷ []) ∙ or_from _ _ (not-true _ parts.0) (or_from _ _ (eqb_turned _ _ apart.0) refl) in
    and_from _ _ (not_from_false _ fresh) (distinct_push ps p parts.1 apart.1)

-- what is true of the flows of each sheet
abbrev pub Sound : List Flow → Type 0
Sound fs = (1 ≤ length (map said fs)) × (length (map said fs) ≤ 20) × (distinct_labels (map said fs) ≡ true)

pub sound_push : (fs : List Flow) (f : Flow) → Sound fs → labelled f.parameters.label (map said fs) ≡ false → length fs < 20 → Sound (fs ++ f ∷ [])
sound_push fs f h fresh room =
    let long = length-map fs said in
    let one_more = length-append (map said fs) (said f ∷ []) in
    let split = map_push said fs f in
    subst (λ ps. (1 ≤ length ps) × (length ps ≤ 20) × (distinct_labels ps ≡ true)) (sym split) (omega (arith, one_more), omega (arith, one_more, long), distinct_push (map said fs) (said f) h.2 fresh)
