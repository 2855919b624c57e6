-- Sums over lists of flows: pointwise, under striking, and over the members of a list's set. Assumes nothing.
--   total_members   over a list without repeats it is the sum over the members of its set
--   any_members     some flow of a list has a property exactly if some member of its set has it
use Rattle.std.proofs.Common.{◌≡◌, ℕ, zero, suc, ◌+◌, ◌<◌, ◌≤◌, Bool, true, false, cond, not, ◌&&◌, ◌||◌, eqb, ltb, leb, ◌⊎◌, List, [], ◌∷◌, ◌++◌, reverse, sym, refl, ap, ◌∙◌, inl, inr, zero-add, arith}
use mathlib.Core.List.{reverse-cons}
use Rattle.std.proofs.lemmas.Bool.{and_parts, not-true, leb-true, lt-ltb, cases_eq, eq-eqb, ne_eqb, or_cases, or_left, or_right}
use Rattle.rule.specs.Lists.{is_flow, among, distinct, marks, marks_from, Struck}
use Rattle.rule.specs.Lists.Struck.{none, kept, out}
use Rattle.rule.specs.FlowSets.{members, members_from}
use Rattle.interference.specs.Interference.{any}
use Rattle.interference.specs.Tables.{total}

pub total_le : (v w : ℕ → ℕ) → ((g : ℕ) → v g ≤ w g) → (gs : List ℕ) → total v gs ≤ total w gs
total_le v w less [] = omega arith
total_le v w less (g ∷ gs) = omega (arith, less g, total_le v w less gs)

pub total_same : (v w : ℕ → ℕ) → ((g : ℕ) → v g ≡ w g) → (gs : List ℕ) → total v gs ≡ total w gs
total_same v w same [] = refl
total_same v w same (g ∷ gs) = omega (arith, same g, total_same v w same gs)

pub total_push : (w : ℕ → ℕ) (gs : List ℕ) (g : ℕ) → total w (gs ++ g ∷ []) ≡ w g + total w gs
total_push w [] g = refl
total_push w (h ∷ gs) g = omega (arith, total_push w gs g)

pub total_reverse : (w : ℕ → ℕ) (gs : List ℕ) → total w (reverse gs) ≡ total w gs
total_reverse w [] = refl
total_reverse w (g ∷ gs) = rw reverse-cons (total_push w (reverse gs) g ∙ ap (λ n. w g + n) (total_reverse w gs))

-- striking flows takes from a sum
pub total_struck : (w : ℕ → ℕ) {fewer gs : List ℕ} → Struck fewer gs → total w fewer ≤ total w gs
total_struck w none = omega arith
total_struck w (kept s) = omega (arith, total_struck w s)
total_struck w (out s) = omega (arith, total_struck w s)

-- some flow of a list has a property exactly if the flows with it are not 0
any_total : (p : ℕ → Bool) (gs : List ℕ) → any p gs ≡ ltb 0 (total (λ g. cond (p g) 1 0) gs)
any_total p [] = refl
any_total p (g ∷ gs) = elim (p g) as (λ b. (b || any p gs) ≡ ltb 0 (cond b 1 0 + total (λ h. cond (p h) 1 0) gs)) [
  | true ↦ sym (lt-ltb 0 (1 + total (λ h. cond (p h) 1 0) gs) (omega arith))
  | false ↦ rw zero-add (any_total p gs)
]

-- the sum over the members of the k marks of a list from i up
abbrev spread : (ℕ → ℕ) → ℕ → ℕ → List ℕ → ℕ
spread w k i gs = total w (members_from i (marks_from k i gs))

-- one mark more, at the front
abbrev front : (ℕ → ℕ) → ℕ → Bool → ℕ → ℕ
front w i mark rest = cond mark (w i + rest) rest

spread_suc : (w : ℕ → ℕ) (k i : ℕ) (gs : List ℕ) → spread w (suc k) i gs ≡ front w i (among i gs) (spread w k (suc i) gs)
spread_suc w k i gs = elim (among i gs) as (λ b. total w (cond b (i ∷ members_from (suc i) (marks_from k (suc i) gs)) (members_from (suc i) (marks_from k (suc i) gs))) ≡ front w i b (spread w k (suc i) gs)) [ true ↦ refl | false ↦ refl ]

spread_none : (w : ℕ → ℕ) (k i : ℕ) → spread w k i [] ≡ 0
spread_none w zero i = refl
spread_none w (suc k) i = spread_none w k (suc i)

-- a flow below the marks adds nothing
spread_below : (w : ℕ → ℕ) (k i g : ℕ) (gs : List ℕ) → g < i → spread w k i (g ∷ gs) ≡ spread w k i gs
spread_below w zero i g gs below = refl
spread_below w (suc k) i g gs below =
    spread_suc w k i (g ∷ gs)
    ∙ ap (λ b. front w i (b || among i gs) (spread w k (suc i) (g ∷ gs))) (ne_eqb i g (λ e. omega arith))
    ∙ ap (front w i (among i gs)) (spread_below w k (suc i) g gs (omega arith))
    ∙ sym (spread_suc w k i gs)

-- a flow among the marks adds its weight, unless it is counted already
spread_within : (w : ℕ → ℕ) (k i g : ℕ) (gs : List ℕ) → i ≤ g → g < i + k → among g gs ≡ false → spread w k i (g ∷ gs) ≡ w g + spread w k i gs
spread_within w zero i g gs from upto fresh = absurd (omega arith)
spread_within w (suc k) i g gs from upto fresh =
    spread_suc w k i (g ∷ gs) ∙ go (cases_eq i g) (λ later. spread_within w k (suc i) g gs later (omega arith) fresh) ∙ ap (λ n. w g + n) (sym (spread_suc w k i gs))
  where
    go : (i ≡ g) ⊎ (i ≡ g → ⊥) → (suc i ≤ g → spread w k (suc i) (g ∷ gs) ≡ w g + spread w k (suc i) gs) → front w i (eqb i g || among i gs) (spread w k (suc i) (g ∷ gs)) ≡ w g + front w i (among i gs) (spread w k (suc i) gs)
    go (inl e) rest =
        let new : front w i (eqb i g || among i gs) (spread w k (suc i) (g ∷ gs)) ≡ w i + spread w k (suc i) (g ∷ gs) = ap (λ b. front w i (b || among i gs) (spread w k (suc i) (g ∷ gs))) (eq-eqb i g e) in
        let old : front w i (among i gs) (spread w k (suc i) gs) ≡ spread w k (suc i) gs = ap (λ b. front w i b (spread w k (suc i) gs)) (ap (λ h. among h gs) e ∙ fresh) in
        omega (arith, new, old, ap w e, spread_below w k (suc i) g gs (omega arith))
    go (inr n) rest =
        ap (λ b. front w i (b || among i gs) (spread w k (suc i) (g ∷ gs))) (ne_eqb i g n)
        ∙ elim (among i gs) as (λ b. front w i b (spread w k (suc i) (g ∷ gs)) ≡ w g + front w i b (spread w k (suc i) gs)) [
          | true ↦ omega (arith, rest (omega arith))
          | false ↦ rest (omega arith)
        ]

-- a sum over a list without repeats is the sum over the members of its set
pub total_members : (w : ℕ → ℕ) (n : ℕ) (gs : List ℕ) → n ≤ 20 → distinct n gs ≡ true → total w gs ≡ total w (members (marks gs))
unfolding marks
total_members w n [] few proper = refl
total_members w n (g ∷ gs) few proper =
    let parts = and_parts (is_flow n g && not (among g gs)) (distinct n gs) proper in
    let head = and_parts (is_flow n g) (not (among g gs)) parts.0 in
    let range = and_parts (leb 1 g) (leb g n) head.0 in
    ap (λ k. w g + k) (total_members w n gs few parts.1)
    ∙ sym (spread_within w 20 1 g gs (leb-true 1 g range.0) (omega (arith, leb-true g n range.1)) (not-true (among g gs) head.1))

-- some flow of a list has a property exactly if some member of its set has it
pub any_members : (p : ℕ → Bool) (n : ℕ) (gs : List ℕ) → n ≤ 20 → distinct n gs ≡ true → any p gs ≡ any p (members (marks gs))
any_members p n gs few proper =
    any_total p gs ∙ ap (ltb 0) (total_members (λ g. cond (p g) 1 0) n gs few proper) ∙ sym (any_total p (members (marks gs)))

-- what some flow of a list has, some flow of a longer one has
pub any_struck : (p : ℕ → Bool) {fewer gs : List ℕ} → Struck fewer gs → any p fewer ≡ true → any p gs ≡ true
any_struck p none h = h
any_struck p (kept {g} {gs} {hs} s) h = elim (or_cases (p g) (any p gs) h) [ inl here ↦ or_left (p g) (any p hs) here | inr later ↦ or_right (p g) (any p hs) (any_struck p s later) ]
any_struck p (out {g} {gs} {hs} s) h = or_right (p g) (any p hs) (any_struck p s h)

pub any_reverse : (p : ℕ → Bool) (gs : List ℕ) → any p (reverse gs) ≡ any p gs
any_reverse p gs = any_total p (reverse gs) ∙ ap (ltb 0) (total_reverse (λ g. cond (p g) 1 0) gs) ∙ sym (any_total p gs)

-- striking reads the same from the other end
struck_push : {fewer gs : List ℕ} (g : ℕ) → Struck fewer gs → Struck (fewer ++ g ∷ []) (gs ++ g ∷ [])
struck_push g none = kept none
struck_push g (kept s) = kept (struck_push g s)
struck_push g (out s) = out (struck_push g s)

struck_last : {fewer gs : List ℕ} (g : ℕ) → Struck fewer gs → Struck fewer (gs ++ g ∷ [])
struck_last g none = out none
struck_last g (kept s) = kept (struck_last g s)
struck_last g (out s) = out (struck_last g s)

pub struck_reverse : {fewer gs : List ℕ} → Struck fewer gs → Struck (reverse fewer) (reverse gs)
struck_reverse none = none
struck_reverse (kept {g} {gs} {hs} s) = rw (reverse-cons g gs, reverse-cons g hs) (struck_push g (struck_reverse s))
struck_reverse (out {g} {gs} {hs} s) = rw (reverse-cons g hs) (struck_last g (struck_reverse s))
