-- The places of labels on a sheet: found by a search from the first flow on, within the sheet, apart. Assumes nothing.
use Rattle.std.proofs.Common.{◌≡◌, ℕ, suc, ◌+◌, ◌<◌, Bool, true, false, not, ◌&&◌, ◌||◌, ◌==◌, nat_lt, cond, eqb, List, [], ◌∷◌, map, length, None, Some, sym, refl, ap, ap₂, ◌∙◌, add-one, arith}
use Rattle.std.specs.List.{position, position_or_len}
use Rattle.std.specs.Option.{option_map}
use Rattle.std.proofs.lemmas.List.{length-map}
use Rattle.std.proofs.lemmas.List.Recursion.{is_position_or_len}
use Rattle.std.proofs.Math.Dec.{leb-suc-suc}
use Rattle.std.proofs.lemmas.Bool.{eqb-true, eqb-false, ne_eqb, le-leb, lt-ltb, and_parts, and_from, not-true, not_from_false}
use Rattle.chip.specs.declared.flow.Flow.{Flow}
use Rattle.chip.specs.declared.parameters.FlowParameters.{FlowParameters}
use Rattle.sheet.specs.declared.pair.Pair as sheet
use Rattle.sheet.specs.Flows.{said, labelled}
use Rattle.sheet.specs.Pairs.{pair_holds}
use Rattle.precedence.specs.Pairs.{two_flows}
use Rattle.rule.specs.Lists.{is_flow}
use Rattle.planner.specs.JobRules.{place, number, numbered}

-- the place of a label among flows is where a search for it ends
searched : (label : ℕ) (fs : List Flow) → place label (map said fs) ≡ position_or_len (λ f. label == f.parameters.label) fs
searched label fs = is_position_or_len (λ fs. place label (map said fs)) (λ f. label == f.parameters.label) refl (λ f fs. ap (cond (label == f.parameters.label) 0) (omega arith)) fs

-- a label is on the sheet if its place is
labelled_within : (label : ℕ) (ps : List FlowParameters) → nat_lt (place label ps) (length ps) ≡ labelled label ps
labelled_within label [] = refl
labelled_within label (p ∷ ps) = at (label == p.label) (labelled_within label ps)
  where
    at : (b : Bool) → nat_lt (place label ps) (length ps) ≡ labelled label ps → nat_lt (cond b 0 (suc (place label ps))) (suc (length ps)) ≡ (b || labelled label ps)
    at true rest = lt-ltb 0 (suc (length ps)) (omega arith)
    at false rest = leb-suc-suc (suc (place label ps)) (length ps) ∙ rest

-- the number of the flow that a search finds
pub found : (label : ℕ) (fs : List Flow) → option_map (λ n. n + 1) (position (λ f. label == f.parameters.label) fs) ≡ cond (labelled label (map said fs)) (Some (number (map said fs) label)) None
found label fs =
    let within : nat_lt (position_or_len (λ f. label == f.parameters.label) fs) (length fs) ≡ labelled label (map said fs) =
    ap₂ nat_lt (sym (searched label fs)) (sym (length-map fs said)) ∙ labelled_within label (map said fs)
    in
    ap₂ (λ b n. option_map (λ n. n + 1) (cond b (Some n) None)) within (sym (searched label fs)) ∙ at (place label (map said fs)) (labelled label (map said fs))
  where
    at : (n : ℕ) (b : Bool) → option_map (λ n. n + 1) (cond b (Some n) None) ≡ cond b (Some (suc n)) None
    at n true = ap Some (add-one n)
    at n false = refl

-- a label of the sheet has its place on it
place_within : (label : ℕ) (ps : List FlowParameters) → labelled label ps ≡ true → place label ps < length ps
place_within label [] h = let z : ◌≡◌ {A = ℕ} 0 1 = cc in absurd (omega arith)
place_within label (p ∷ ps) h = at (eqb label p.label) refl (place_within label ps)
  where
    at : (b : Bool) → eqb label p.label ≡ b → (labelled label ps ≡ true → place label ps < length ps) → place label (p ∷ ps) < length (p ∷ ps)
    at true e rest = rw e (omega arith)
    at false e rest = let lt = rest (rw e at h) in rw e (omega arith)

-- two labels have two places
place_apart : (a b : ℕ) (ps : List FlowParameters) → (a ≡ b → ⊥) → labelled a ps ≡ true → labelled b ps ≡ true → place a ps ≡ place b ps → ⊥
place_apart a b [] ne h k e = let z : ◌≡◌ {A = ℕ} 0 1 = cc in omega arith
place_apart a b (p ∷ ps) ne h k e = at (eqb a p.label) (eqb b p.label) refl refl (place_apart a b ps ne)
  where
    at : (x y : Bool) → eqb a p.label ≡ x → eqb b p.label ≡ y → (labelled a ps ≡ true → labelled b ps ≡ true → place a ps ≡ place b ps → ⊥) → ⊥
    at true true q r rest = ne (eqb-true a p.label q ∙ sym (eqb-true b p.label r))
    at true false q r rest = let f : 0 ≡ suc (place b ps) = rw (q, r) at e in omega arith
    at false true q r rest = let f : suc (place a ps) ≡ 0 = rw (q, r) at e in omega arith
    at false false q r rest = let f : suc (place a ps) ≡ suc (place b ps) = rw (q, r) at e in rest (rw q at h) (rw r at k) (omega arith)

-- the number of a label of the sheet is that of a flow
number_flow : (ps : List FlowParameters) (label : ℕ) → labelled label ps ≡ true → is_flow (length ps) (number ps label) ≡ true
number_flow ps label h =
    let lt = place_within label ps h in
    and_from _ _ (le-leb 1 (number ps label) (omega arith)) (le-leb (number ps label) (length ps) (omega arith))

-- a pair that names two flows of the sheet is a pair of two flow numbers
pub numbered_two : (ps : List FlowParameters) (q : sheet.Pair) → pair_holds ps q ≡ true → two_flows (length ps) (numbered ps q) ≡ true
numbered_two ps q h =
    let parts = and_parts (labelled q.first ps && labelled q.later ps) (not (eqb q.first q.later)) h in
    let both = and_parts (labelled q.first ps) (labelled q.later ps) parts.0 in
    let apart = eqb-false q.first q.later (not-true _ parts.1) in
    and_from _ _ (and_from _ _ (number_flow ps q.first both.0) (number_flow ps q.later both.1))
    (not_from_false _ (ne_eqb (number ps q.first) (number ps q.later) (λ e. place_apart q.first q.later ps apart both.0 both.1 (omega arith))))
