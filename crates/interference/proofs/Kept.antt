-- Sets and the flows kept of a list: what two sets have in common, what one has beyond another. Assumes nothing.
use Rattle.std.proofs.Common.{◌≡◌, ℕ, zero, suc, ◌+◌, ◌≤◌, Bool, true, false, cond, not, ◌&&◌, ◌||◌, eqb, leb, ◌⊎◌, List, [], ◌∷◌, length, get_or, filter, sym, refl, ap, ◌∙◌, inl, inr, add-zero, arith}
use Rattle.std.proofs.lemmas.Bool.{and_from, or_cases, or_left, or_right, le-leb, eqb-true, eq-eqb, cases_lt, or_from, ne_eqb}
use Rattle.rule.specs.Lists.{is_flow, among, distinct, within_from, within, marks, has}
use Rattle.rule.specs.FlowSets.{both, less, empty, members_from, members}
use Rattle.rule.proofs.Members.{has_marks, among_members, marks_length}
use Rattle.rule.proofs.Distinct.{distinct_parts, flow_range}
use Rattle.interference.specs.Interference.{any}
use Rattle.interference.proofs.Walking.{Flows, within_flows}

module _ (p : ℕ → Bool) where
  -- what is in both sets is kept of the first
  both_kept_from : (i : ℕ) (set other : List Bool) → length set ≡ length other → ((k : ℕ) → p (i + k) ≡ get_or other k false) → members_from i (both set other) ≡ filter p (members_from i set)
  both_kept_from i [] other sized same = refl
  both_kept_from i (mark ∷ set) [] sized same = absurd (omega arith)
  both_kept_from i (mark ∷ set) (also ∷ other) sized same =
      go mark also (ap p (sym (add-zero i)) ∙ same 0)
      (both_kept_from (suc i) set other (omega arith) (λ k. let e : suc i + k ≡ i + suc k = omega arith in ap p e ∙ same (suc k)))
    where
      go : (m n : Bool) → p i ≡ n → members_from (suc i) (both set other) ≡ filter p (members_from (suc i) set) → members_from i ((m && n) ∷ both set other) ≡ filter p (members_from i (m ∷ set))
      go true true e rest = rw e (ap (λ gs. i ∷ gs) rest)
      go true false e rest = rw e rest
      go false n e rest = rest

  -- what is in the first set alone is kept of it
  less_kept_from : (i : ℕ) (set other : List Bool) → length set ≡ length other → ((k : ℕ) → p (i + k) ≡ not (get_or other k false)) → members_from i (less set other) ≡ filter p (members_from i set)
  less_kept_from i [] other sized same = refl
  less_kept_from i (mark ∷ set) [] sized same = absurd (omega arith)
  less_kept_from i (mark ∷ set) (also ∷ other) sized same =
      go mark also (ap p (sym (add-zero i)) ∙ same 0)
      (less_kept_from (suc i) set other (omega arith) (λ k. let e : suc i + k ≡ i + suc k = omega arith in ap p e ∙ same (suc k)))
    where
      go : (m n : Bool) → p i ≡ not n → members_from (suc i) (less set other) ≡ filter p (members_from (suc i) set) → members_from i ((m && not n) ∷ less set other) ≡ filter p (members_from i (m ∷ set))
      go true true e rest = rw e rest
      go true false e rest = rw e (ap (λ gs. i ∷ gs) rest)
      go false n e rest = rest

-- the flows in both sets are those of the first that are in the second
pub both_kept : (set other : List Bool) → length set ≡ length other → members (both set other) ≡ filter (has other) (members set)
both_kept set other sized = both_kept_from (has other) 1 set other sized (λ k. let e : 1 + k ≡ suc k = omega arith in ap (has other) e)

-- the flows in the first set alone are those of the first that are not in the second
pub less_kept : (set other : List Bool) → length set ≡ length other → members (less set other) ≡ filter (λ g. not (has other g)) (members set)
less_kept set other sized = less_kept_from (λ g. not (has other g)) 1 set other sized (λ k. let e : 1 + k ≡ suc k = omega arith in ap (λ g. not (has other g)) e)

-- tests that agree on the flows of a list keep the same
pub kept_same : (p q : ℕ → Bool) (gs : List ℕ) → ((g : ℕ) → among g gs ≡ true → p g ≡ q g) → filter p gs ≡ filter q gs
kept_same p q [] same = refl
kept_same p q (g ∷ gs) same =
    ap (λ b. cond b (g ∷ filter p gs) (filter p gs)) (same g (or_left (eqb g g) (among g gs) (eq-eqb g g refl)))
    ∙ ap (λ hs. cond (q g) (g ∷ hs) hs) (kept_same p q gs (λ h asked. same h (or_right (eqb h g) (among h gs) asked)))

-- what is kept of a list stands in it
pub kept_among : (p : ℕ → Bool) (gs : List ℕ) (j : ℕ) → among j (filter p gs) ≡ true → among j gs ≡ true
kept_among p [] j h = h
kept_among p (g ∷ gs) j h = go (p g) h (kept_among p gs j)
  where
    go : (b : Bool) → among j (cond b (g ∷ filter p gs) (filter p gs)) ≡ true → (among j (filter p gs) ≡ true → among j gs ≡ true) → (eqb j g || among j gs) ≡ true
    go true asked rest = elim (or_cases (eqb j g) (among j (filter p gs)) asked) [ inl here ↦ or_left (eqb j g) (among j gs) here | inr later ↦ or_right (eqb j g) (among j gs) (rest later) ]
    go false asked rest = or_right (eqb j g) (among j gs) (rest asked)

flows_within_from : (n i : ℕ) (set : List Bool) → Flows n (members_from i set) → within_from n i set ≡ true
flows_within_from n i [] flows = refl
flows_within_from n i (true ∷ set) flows =
    and_from (leb i n) (within_from n (suc i) set) (le-leb i n (flow_range n i (flows i (or_left (eqb i i) (among i (members_from (suc i) set)) (eq-eqb i i refl)))).1)
    (flows_within_from n (suc i) set (λ j asked. flows j (or_right (eqb j i) (among j (members_from (suc i) set)) asked)))
flows_within_from n i (false ∷ set) flows = flows_within_from n (suc i) set flows

-- a set all of whose members are flows of n is within n
pub flows_within : (n : ℕ) (set : List Bool) → Flows n (members set) → within n set ≡ true
flows_within n set flows = flows_within_from n 1 set flows

pub distinct_flows : (n : ℕ) (gs : List ℕ) → distinct n gs ≡ true → Flows n gs
distinct_flows n [] h j asked = let z : ◌≡◌ {A = ℕ} 0 1 = cc in absurd (omega arith)
distinct_flows n (g ∷ gs) h j asked =
    let parts = distinct_parts n g gs h in
    elim (or_cases (eqb j g) (among j gs) asked) [
      | inl here ↦ ap (is_flow n) (eqb-true j g here) ∙ parts.0
      | inr later ↦ distinct_flows n gs parts.2 j later
    ]

-- a set has no flow past its marks
has_past : (set : List Bool) (i : ℕ) → length set ≤ i → get_or set i false ≡ false
has_past [] i h = refl
has_past (mark ∷ set) zero h = absurd (omega arith)
has_past (mark ∷ set) (suc i) h = has_past set i (omega arith)

-- a flow in the set of a list stands in the list
pub marks_among : (g : ℕ) (gs : List ℕ) → has (marks gs) g ≡ true → among g gs ≡ true
marks_among zero gs h = let z : ◌≡◌ {A = ℕ} 0 1 = cc in absurd (omega arith)
marks_among (suc i) gs h = elim (cases_lt i 20) [
  | inl inside ↦ sym (has_marks (suc i) gs (omega arith) inside) ∙ h
  | inr past ↦ let e : get_or (marks gs) i false ≡ false = has_past (marks gs) i (omega (arith, marks_length gs)) in let z : ◌≡◌ {A = ℕ} 0 1 = cc in absurd (omega arith)
]

-- the set of a proper list is within the flows
pub marks_within : (n : ℕ) (gs : List ℕ) → distinct n gs ≡ true → within n (marks gs) ≡ true
marks_within n gs h = flows_within n (marks gs) (λ j asked. distinct_flows n gs h j (marks_among j gs (sym (among_members j (marks gs)) ∙ asked)))

-- what is kept of a set within the flows is within them
pub kept_within : (n : ℕ) (p : ℕ → Bool) (set kept : List Bool) → members kept ≡ filter p (members set) → within n set ≡ true → within n kept ≡ true
kept_within n p set kept e h = flows_within n kept (λ j asked. within_flows n set h j (kept_among p (members set) j (rw e at asked)))

-- a flow is in the first set alone exactly if it is in the first and not in the second
less_at : (set other : List Bool) (i : ℕ) → length set ≡ length other → get_or (less set other) i false ≡ (get_or set i false && not (get_or other i false))
less_at [] other i sized = refl
less_at (mark ∷ set) [] i sized = absurd (omega arith)
less_at (mark ∷ set) (also ∷ other) zero sized = refl
less_at (mark ∷ set) (also ∷ other) (suc i) sized = less_at set other i (omega arith)

pub has_less : (set other : List Bool) (g : ℕ) → length set ≡ length other → has (less set other) g ≡ (has set g && not (has other g))
has_less set other zero sized = refl
has_less set other (suc i) sized = less_at set other i sized

-- what a test refuses is not kept
kept_not : (p : ℕ → Bool) (g : ℕ) (gs : List ℕ) → p g ≡ false → among g (filter p gs) ≡ false
kept_not p g [] e = refl
kept_not p g (h ∷ gs) e = go (p h) refl (kept_not p g gs e)
  where
    go : (b : Bool) → p h ≡ b → among g (filter p gs) ≡ false → among g (cond b (h ∷ filter p gs) (filter p gs)) ≡ false
    go true q rest = or_from (eqb g h) (among g (filter p gs)) (ne_eqb g h (λ s. let z : true ≡ false = sym q ∙ ap p (sym s) ∙ e in let y : ◌≡◌ {A = ℕ} 0 1 = cc in omega arith)) rest
    go false q rest = rest

-- what passes and stands in the list is kept
kept_yes : (p : ℕ → Bool) (g : ℕ) (gs : List ℕ) → p g ≡ true → among g gs ≡ true → among g (filter p gs) ≡ true
kept_yes p g [] e h = h
kept_yes p g (x ∷ gs) e h = go (p x) refl (or_cases (eqb g x) (among g gs) h) (λ later. kept_yes p g gs e later)
  where
    go : (b : Bool) → p x ≡ b → (eqb g x ≡ true) ⊎ (among g gs ≡ true) → (among g gs ≡ true → among g (filter p gs) ≡ true) → among g (cond b (x ∷ filter p gs) (filter p gs)) ≡ true
    go true q (inl here) rest = or_left (eqb g x) (among g (filter p gs)) here
    go true q (inr later) rest = or_right (eqb g x) (among g (filter p gs)) (rest later)
    go false q (inl here) rest = let z : true ≡ false = sym e ∙ ap p (eqb-true g x here) ∙ q in let y : ◌≡◌ {A = ℕ} 0 1 = cc in absurd (omega arith)
    go false q (inr later) rest = rest later

-- a flow of a list is kept exactly if it passes the test
pub among_kept : (p : ℕ → Bool) (gs : List ℕ) (g : ℕ) → among g gs ≡ true → among g (filter p gs) ≡ p g
among_kept p gs g asked = go (p g) refl
  where
    go : (b : Bool) → p g ≡ b → among g (filter p gs) ≡ b
    go true e = kept_yes p g gs e asked
    go false e = kept_not p g gs e

-- some kept flow has a property exactly if some flow that passes has it
pub any_kept : (p q : ℕ → Bool) (gs : List ℕ) → any p (filter q gs) ≡ any (λ g. q g && p g) gs
any_kept p q [] = refl
any_kept p q (g ∷ gs) = elim (q g) as (λ b. any p (cond b (g ∷ filter q gs) (filter q gs)) ≡ ((b && p g) || any (λ h. q h && p h) gs)) [
  | true ↦ ap (λ b. p g || b) (any_kept p q gs)
  | false ↦ any_kept p q gs
]

-- tests that agree on the flows of a list hold of some alike
pub any_same : (p q : ℕ → Bool) (gs : List ℕ) → ((g : ℕ) → among g gs ≡ true → p g ≡ q g) → any p gs ≡ any q gs
any_same p q [] same = refl
any_same p q (g ∷ gs) same =
    ap (λ b. b || any p gs) (same g (or_left (eqb g g) (among g gs) (eq-eqb g g refl)))
    ∙ ap (λ b. q g || b) (any_same p q gs (λ h asked. same h (or_right (eqb h g) (among h gs) asked)))

-- a set is empty exactly if it has no member
empty_from : (i : ℕ) (set : List Bool) → not (empty set) ≡ any (λ g. true) (members_from i set)
empty_from i [] = refl
empty_from i (true ∷ set) = refl
empty_from i (false ∷ set) = empty_from (suc i) set

-- a flow is in a set, also in a second, and not in a third
pub some_in_both_not : (set near far : List Bool) → length set ≡ length near → length (both set near) ≡ length far → not (empty (less (both set near) far)) ≡ any (λ g. has near g && not (has far g)) (members set)
some_in_both_not set near far sized also =
    empty_from 1 (less (both set near) far)
    ∙ ap (any (λ g. true)) (less_kept (both set near) far also)
    ∙ any_kept (λ g. true) (λ g. not (has far g)) (members (both set near))
    ∙ ap (any (λ g. not (has far g) && true)) (both_kept set near sized)
    ∙ any_kept (λ g. not (has far g) && true) (has near) (members set)
    ∙ any_same (λ g. has near g && (not (has far g) && true)) (λ g. has near g && not (has far g)) (members set) (λ g asked. ap (λ b. has near g && b) (drop_true (not (has far g))))
  where
    drop_true : (b : Bool) → (b && true) ≡ b
    drop_true true = refl
    drop_true false = refl
