-- Going through the flows of a set, smallest first, until none is left. Assumes nothing.
use Rattle.std.proofs.Common.{◌≡◌, ℕ, suc, ◌≤◌, Bool, true, false, eqb, leb, List, [], ◌∷◌, length, refl, inl, inr, arith}
use Rattle.std.proofs.lemmas.Bool.{and_parts, or_cases, or_left, or_right, eqb-true, eq-eqb, leb-true}
use Rattle.std.proofs.lemmas.Bool.Decides.{nat_tests}
use Rattle.rule.specs.Lists.{is_flow, among, within_from, within}
use Rattle.rule.specs.FlowSets.{marks_of, size, members_from, members}
use Rattle.rule.specs.declared.flow_set.FlowSet.{FlowSet}
use Rattle.rule.proofs.FlowSets.{marks_of_length}
use Rattle.rule.proofs.Members.{size_members}

-- a list holds flows of 1 to n only
abbrev pub Flows : ℕ → List ℕ → Type 0
Flows n gs = (j : ℕ) → among j gs ≡ true → is_flow n j ≡ true

-- the first flow of a list is one
pub flows_head : (n g : ℕ) (before after : List ℕ) → before ≡ g ∷ after → Flows n before → is_flow n g ≡ true
flows_head n g before after e ok = ok g (rw e (or_left (eqb g g) (among g after) (eq-eqb g g refl)))

-- and so are the others
pub flows_tail : (n g : ℕ) (before after : List ℕ) → before ≡ g ∷ after → Flows n before → Flows n after
flows_tail n g before after e ok j h = ok j (rw e (or_right (eqb j g) (among j after) h))

within_members : (n i : ℕ) (set : List Bool) → 1 ≤ i → within_from n i set ≡ true → Flows n (members_from i set)
within_members n i [] some h j asked = let z : ◌≡◌ {A = ℕ} 0 1 = cc in absurd (omega arith)
within_members n i (true ∷ set) some h j asked =
    let parts = and_parts (leb i n) (within_from n (suc i) set) h in
    elim (or_cases (eqb j i) (among j (members_from (suc i) set)) asked) [
      | inl e ↦ let f = eqb-true j i e in let g = leb-true i n parts.0 in grind (arith, nat_tests)
      | inr later ↦ within_members n (suc i) set (omega arith) parts.1 j later
    ]
within_members n i (false ∷ set) some h j asked = within_members n (suc i) set (omega arith) h j asked

-- a set within n holds flows of 1 to n only
pub within_flows : (n : ℕ) (set : List Bool) → within n set ≡ true → Flows n (members set)
within_flows n set h = within_members n 1 set (omega arith) h

size_few : (set : List Bool) → size set ≤ length set
size_few [] = omega arith
size_few (true ∷ set) = omega (arith, size_few set)
size_few (false ∷ set) = omega (arith, size_few set)

-- a set has at most 20 flows
pub members_few : (s : FlowSet) → length (members (marks_of s)) ≤ 20
members_few s = omega (arith, size_members 1 (marks_of s), size_few (marks_of s), marks_of_length s)
