-- The sets of flows that share with a flow, as they are worked out from the routes, and as a rule reads them. Assumes nothing.
use Rattle.std.proofs.Common.{◌≡◌, ℕ, zero, suc, ◌+◌, ◌-◌, ◌<◌, ◌≤◌, Bool, true, false, cond, ◌&&◌, eqb, ◌⊎◌, List, [], length, get_or, sym, refl, ap, ◌∙◌, ap₂, inl, inr, add-one, arith}
use lib.ListN as ListN
use Rattle.std.proofs.lemmas.List.{get_or-map, length-set, get_or-set_same, get_or-set_other}
use Rattle.std.proofs.lemmas.Bool.{cases_eq, eq-eqb, ne_eqb, and_from, and_left, and_right}
use Rattle.std.proofs.lemmas.Bool.Decides.{nat_tests}
use Rattle.chip.specs.declared.parameters.FlowParameters.{FlowParameters}
use Rattle.chip.specs.declared.route.Route.{Route}
use Rattle.rule.specs.Lists.{is_flow, marks, has}
use Rattle.rule.specs.FlowSets.{put, firsts}
use Rattle.rule.proofs.Marks.{marks_from_none}
use Rattle.rule.proofs.Members.{marks_length}
use Rattle.interference.specs.Interference.{no_flow, flow, share}
use Rattle.interference.specs.Tables.{sharers, routed}

-- the flow of a route by its place in a table of routes
pub routed_at : (routes : List Route) (i : ℕ) (x : Route) → i < length routes → flow (routed routes) (i + 1) ≡ (get_or routes i x).flow.parameters
routed_at routes i x inside = let e : i + 1 - 1 ≡ i = omega arith in ap (λ n. get_or (routed routes) n no_flow) e ∙ get_or-map (λ r. r.flow.parameters) routes i x no_flow inside

-- one flow more
pub sharers_more : (fs : List FlowParameters) (f k : ℕ) (b : Bool) → share fs (k + 1) f ≡ b → sharers fs f (k + 1) ≡ cond b (put (sharers fs f k) (k + 1) true) (sharers fs f k)
sharers_more fs f k b e =
    let s : k + 1 ≡ suc k = add-one k in
    ap (sharers fs f) s
    ∙ ap₂ (λ c n. cond c (put (sharers fs f k) n true) (sharers fs f k)) (ap (λ n. share fs n f) (sym s) ∙ e) (sym s)

sharers_length : (fs : List FlowParameters) (f k : ℕ) → length (sharers fs f k) ≡ 20
sharers_length fs f zero = marks_length []
sharers_length fs f (suc k) = elim (share fs (suc k) f) as (λ b. length (cond b (put (sharers fs f k) (suc k) true) (sharers fs f k)) ≡ 20) [
  | true ↦ length-set (sharers fs f k) k true ∙ sharers_length fs f k
  | false ↦ sharers_length fs f k
]

-- a flow put into a set is in it, and the others are as they were
pub has_put : (set : List Bool) (g h : ℕ) (mark : Bool) → 1 ≤ g → g ≤ length set → has (put set g mark) h ≡ cond (eqb h g) mark (has set h)
has_put set zero h mark some few = absurd (omega arith)
has_put set (suc i) zero mark some few = sym (ap (λ b. cond b mark false) (ne_eqb 0 (suc i) (λ e. omega arith)))
has_put set (suc i) (suc j) mark some few = go (cases_eq j i)
  where
    go : (j ≡ i) ⊎ (j ≡ i → ⊥) → get_or (ListN.set set i mark) j false ≡ cond (eqb (suc j) (suc i)) mark (get_or set j false)
    go (inl e) =
        ap (λ n. get_or (ListN.set set i mark) n false) e ∙ get_or-set_same set i mark false (omega arith)
        ∙ sym (ap (λ b. cond b mark (get_or set j false)) (eq-eqb (suc j) (suc i) (omega arith)))
    go (inr n) = get_or-set_other set i j mark false n ∙ sym (ap (λ b. cond b mark (get_or set j false)) (ne_eqb (suc j) (suc i) (λ e. n (omega arith))))

firsts_none : (k i : ℕ) → get_or (firsts k 0) i false ≡ false
firsts_none zero i = refl
firsts_none (suc k) zero = refl
firsts_none (suc k) (suc i) = firsts_none k i

-- the empty set has no flow
pub has_none : (g : ℕ) → has (marks []) g ≡ false
unfolding marks
has_none zero = refl
has_none (suc i) = ap (λ set. get_or set i false) (sym (marks_from_none 20 1)) ∙ firsts_none 20 i

-- a flow is among the sharers exactly if it is one of the flows and shares
pub has_sharers : (fs : List FlowParameters) (f k g : ℕ) → k ≤ 20 → has (sharers fs f k) g ≡ (is_flow k g && share fs g f)
has_sharers fs f zero g few = has_none g ∙ sym (ap (λ b. b && share fs g f) (no_flow_of g))
  where
    no_flow_of : (g : ℕ) → is_flow 0 g ≡ false
    no_flow_of g = grind (arith, nat_tests)
has_sharers fs f (suc k) g few = go (share fs (suc k) f) refl (cases_eq g (suc k)) (has_sharers fs f k g (omega arith))
  where
    old : (g ≡ suc k → ⊥) → is_flow k g ≡ is_flow (suc k) g
    old n = grind (arith, nat_tests)

    fresh : g ≡ suc k → is_flow (suc k) g ≡ true
    fresh e = grind (arith, nat_tests)

    stale : g ≡ suc k → is_flow k g ≡ false
    stale e = grind (arith, nat_tests)

    putted : has (put (sharers fs f k) (suc k) true) g ≡ cond (eqb g (suc k)) true (has (sharers fs f k) g)
    putted = has_put (sharers fs f k) (suc k) g true (omega arith) (omega (arith, sharers_length fs f k))

    go : (b : Bool) → share fs (suc k) f ≡ b → (g ≡ suc k) ⊎ (g ≡ suc k → ⊥) → has (sharers fs f k) g ≡ (is_flow k g && share fs g f) → has (cond b (put (sharers fs f k) (suc k) true) (sharers fs f k)) g ≡ (is_flow (suc k) g && share fs g f)
    go true e (inl here) before =
        putted ∙ ap (λ b. cond b true (has (sharers fs f k) g)) (eq-eqb g (suc k) here)
        ∙ sym (and_from (is_flow (suc k) g) (share fs g f) (fresh here) (ap (λ n. share fs n f) here ∙ e))
    go true e (inr n) before = putted ∙ ap (λ b. cond b true (has (sharers fs f k) g)) (ne_eqb g (suc k) n) ∙ before ∙ ap (λ b. b && share fs g f) (old n)
    go false e (inl here) before =
        before ∙ and_left (is_flow k g) (share fs g f) (stale here)
        ∙ sym (and_right (is_flow (suc k) g) (share fs g f) (ap (λ n. share fs n f) here ∙ e))
    go false e (inr n) before = before ∙ ap (λ b. b && share fs g f) (old n)
