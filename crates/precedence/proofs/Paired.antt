-- Tables of the flows that each flow must precede: how they grow, and what they hold back. Assumes nothing.
use Rattle.std.proofs.Common.{◌≡◌, ℕ, zero, suc, ◌+◌, ◌-◌, ◌<◌, ◌≤◌, Bool, true, false, cond, not, ◌||◌, eqb, List, [], ◌∷◌, ◌++◌, map, length, get_or, set, replicate, sym, refl, ap, ◌∙◌, ap₂, add-zero, arith}
use lib.ListN as ListN
use Rattle.std.specs.List.{list_any}
use Rattle.std.proofs.lemmas.Bool.Decides.{nat_tests}
use Rattle.std.proofs.lemmas.List.{map-set, get_or-map, length-map, append-nil}
use Rattle.std.proofs.lemmas.Bool.{cond-true, cond-false, eq-eqb, ne_eqb}
use Rattle.rule.specs.declared.flow_set.FlowSet.{FlowSet}
use Rattle.rule.specs.Lists.{marks, marks_from, has}
use Rattle.rule.specs.FlowSets.{marks_of, put, both, empty}
use Rattle.rule.proofs.Members.{marks_push, marks_cons, marks_length}
use Rattle.precedence.specs.declared.pair.Pair.{Pair}
use Rattle.precedence.specs.Pairs.{laters, later_sets}

-- without a pair no flow precedes another
pub later_sets_none : (k i : ℕ) (x : FlowSet) → marks_of x ≡ marks [] → map marks_of (replicate k x) ≡ later_sets k i []
unfolding later_sets
later_sets_none zero i x e = refl
later_sets_none (suc k) i x e = ap₂ (λ (m : List Bool) (ms : List (List Bool)). m ∷ ms) e (later_sets_none k (suc i) x e)

-- a list before which g is put or not, and what follows it
if_append : (b : Bool) (g : ℕ) (xs ys zs : List ℕ) → xs ≡ ys ++ zs → cond b (g ∷ xs) xs ≡ cond b (g ∷ ys) ys ++ zs
if_append true g xs ys zs e = ap (λ (l : List ℕ). g ∷ l) e
if_append false g xs ys zs e = e

laters_push : (ps : List Pair) (p : Pair) (f : ℕ) → laters (ps ++ p ∷ []) f ≡ laters ps f ++ cond (eqb p.first f) (p.later ∷ []) []
laters_push [] p f = refl
laters_push (q ∷ ps) p f =
    if_append (eqb q.first f) q.later (laters (ps ++ p ∷ []) f) (laters ps f) (cond (eqb p.first f) (p.later ∷ []) []) (laters_push ps p f)

-- a pair's later flow joins the set of its first flow
set_first : (ps : List Pair) (p : Pair) (f : ℕ) → p.first ≡ f → marks (laters (ps ++ p ∷ []) f) ≡ put (marks (laters ps f)) p.later true
set_first ps p f e =
    ap marks (laters_push ps p f ∙ ap (λ (l : List ℕ). laters ps f ++ l) (cond-true (eqb p.first f) (p.later ∷ []) [] (eq-eqb p.first f e)))
    ∙ marks_push p.later (laters ps f)

-- and no other
set_other : (ps : List Pair) (p : Pair) (f : ℕ) → (p.first ≡ f → ⊥) → marks (laters (ps ++ p ∷ []) f) ≡ marks (laters ps f)
set_other ps p f ne =
    ap marks (laters_push ps p f ∙ ap (λ (l : List ℕ). laters ps f ++ l) (cond-false (eqb p.first f) (p.later ∷ []) [] (ne_eqb p.first f ne)) ∙ append-nil (laters ps f))

later_sets_past : (k i : ℕ) (ps : List Pair) (p : Pair) → p.first < i → later_sets k i (ps ++ p ∷ []) ≡ later_sets k i ps
unfolding later_sets
later_sets_past zero i ps p h = refl
later_sets_past (suc k) i ps p h =
    ap₂ (λ (m : List Bool) (ms : List (List Bool)). m ∷ ms) (set_other ps p i (λ e. omega arith)) (later_sets_past k (suc i) ps p (omega arith))

later_sets_push : (k i j : ℕ) (ps : List Pair) (p : Pair) → p.first ≡ i + j → later_sets k i (ps ++ p ∷ []) ≡ set (later_sets k i ps) j (put (marks (laters ps p.first)) p.later true)
unfolding later_sets
later_sets_push zero i j ps p e = refl
later_sets_push (suc k) i zero ps p e =
    let f : p.first ≡ i = omega arith in
    ap₂ (λ (m : List Bool) (ms : List (List Bool)). m ∷ ms)
    (set_first ps p i f ∙ ap (λ (x : ℕ). put (marks (laters ps x)) p.later true) (sym f))
    (later_sets_past k (suc i) ps p (omega arith))
later_sets_push (suc k) i (suc j) ps p e =
    ap₂ (λ (m : List Bool) (ms : List (List Bool)). m ∷ ms) (set_other ps p i (λ f. omega arith)) (later_sets_push k (suc i) j ps p (omega arith))

later_sets_at : (k i j : ℕ) (ps : List Pair) → j < k → get_or (later_sets k i ps) j [] ≡ marks (laters ps (i + j))
unfolding later_sets
later_sets_at zero i j ps h = absurd (omega arith)
later_sets_at (suc k) i zero ps h = ap (λ (x : ℕ). marks (laters ps x)) (sym (add-zero i))
later_sets_at (suc k) i (suc j) ps h =
    let e : suc i + j ≡ i + suc j = omega arith in
    later_sets_at k (suc i) j ps (omega arith) ∙ ap (λ (x : ℕ). marks (laters ps x)) e

later_sets_length : (k i : ℕ) (ps : List Pair) → length (later_sets k i ps) ≡ k
unfolding later_sets
later_sets_length zero i ps = refl
later_sets_length (suc k) i ps = ap suc (later_sets_length k (suc i) ps)

-- a table of 20 sets that agrees with pairs
module _ (later : List FlowSet) (ps : List Pair) (agree : map marks_of later ≡ later_sets 20 1 ps) where
  pub table_length : length later ≡ 20
  table_length = sym (length-map later marks_of) ∙ ap length agree ∙ later_sets_length 20 1 ps

  -- the set of each flow
  pub table_at : (f : ℕ) (d : FlowSet) → 1 ≤ f → f ≤ 20 → marks_of (get_or later (f - 1) d) ≡ marks (laters ps f)
  table_at f d low high =
      let within : f - 1 < length later = omega (arith, table_length) in
      let e : 1 + (f - 1) ≡ f = omega arith in
      sym (get_or-map marks_of later (f - 1) d [] within)
      ∙ ap (λ (x : List (List Bool)). get_or x (f - 1) []) agree
      ∙ later_sets_at 20 1 (f - 1) ps (omega arith)
      ∙ ap (λ (x : ℕ). marks (laters ps x)) e

  -- one more pair
  pub table_push : (p : Pair) (joined d : FlowSet) → 1 ≤ p.first → p.first ≤ 20 → marks_of joined ≡ put (marks_of (get_or later (p.first - 1) d)) p.later true → map marks_of (set later (p.first - 1) joined) ≡ later_sets 20 1 (ps ++ p ∷ [])
  table_push p joined d low high e =
      map-set marks_of later (p.first - 1) joined
      ∙ ap₂ (λ (x : List (List Bool)) (y : List Bool). set x (p.first - 1) y) agree (e ∙ ap (λ (x : List Bool). put x p.later true) (table_at p.first d low high))
      ∙ sym (later_sets_push 20 1 (p.first - 1) ps p (omega arith))

-- a set meets the set of a list when it holds one of its flows
meets_none : (k i : ℕ) (set : List Bool) → empty (both (marks_from k i []) set) ≡ true
meets_none zero i set = refl
meets_none (suc k) i [] = refl
meets_none (suc k) i (mark ∷ set) = meets_none k (suc i) set

meets_nothing : (set : List Bool) → empty (both (marks []) set) ≡ true
unfolding marks
meets_nothing set = meets_none 20 1 set

meets_put : (ms set : List Bool) (i : ℕ) → length ms ≡ length set → not (empty (both (ListN.set ms i true) set)) ≡ (get_or set i false || not (empty (both ms set)))
meets_put [] [] i e = refl
meets_put [] (mark ∷ set) i e = absurd (omega arith)
meets_put (m ∷ ms) [] i e = absurd (omega arith)
meets_put (true ∷ ms) (true ∷ set) zero e = refl
meets_put (true ∷ ms) (false ∷ set) zero e = refl
meets_put (false ∷ ms) (true ∷ set) zero e = refl
meets_put (false ∷ ms) (false ∷ set) zero e = refl
meets_put (true ∷ ms) (true ∷ set) (suc i) e = grind (arith, nat_tests)
meets_put (true ∷ ms) (false ∷ set) (suc i) e = meets_put ms set i (omega arith)
meets_put (false ∷ ms) (true ∷ set) (suc i) e = meets_put ms set i (omega arith)
meets_put (false ∷ ms) (false ∷ set) (suc i) e = meets_put ms set i (omega arith)

meets_one : (ms set : List Bool) (g : ℕ) → length ms ≡ length set → not (empty (both (put ms g true) set)) ≡ (has set g || not (empty (both ms set)))
meets_one ms set zero e = refl
meets_one ms set (suc i) e = meets_put ms set i e

pub meets : (gs : List ℕ) (set : List Bool) → length set ≡ 20 → not (empty (both (marks gs) set)) ≡ list_any (has set) gs
meets [] set e = ap not (meets_nothing set)
meets (g ∷ gs) set e =
    ap (λ (x : List Bool). not (empty (both x set))) (marks_cons g gs)
    ∙ meets_one (marks gs) set g (marks_length gs ∙ sym e)
    ∙ ap (λ (b : Bool). has set g || b) (meets gs set e)
