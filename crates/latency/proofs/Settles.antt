-- Settling a list from its highest flow downward: what one more flow adds to the table, and when it ends. Assumes nothing.
use Rattle.std.proofs.Common.{◌≡◌, ℕ, ◌+◌, ◌-◌, ◌<◌, ◌≤◌, Bool, true, false, cond, eqb, List, [], ◌∷◌, ◌++◌, map, reverse, length, get_or, take, drop, is_some, Some, None, Option, sym, refl, ap, ◌∙◌, subst, inl, inr, arith}
use mathlib.Core.List.{reverse-append}
use lib.ListN as ListN
use Rattle.std.proofs.lemmas.List.{take_more, take_all, take-append-drop, length-take-le, length-map, map-set, get_or-set_same, get_or-set_other}
use Rattle.std.proofs.lemmas.Bool.{cases_lt, or_cases, or_left, or_right, eqb-true, eq-eqb, and_from, and_parts}
use Rattle.chip.specs.declared.parameters.FlowParameters.{FlowParameters}
use Rattle.rule.specs.Lists.{among, times, distinct, proper, within, has, marks}
use Rattle.rule.specs.FlowSets.{marks_of, put}
use Rattle.rule.specs.Meaning.{leading}
use Rattle.rule.specs.Questions.{table, one_more}
use Rattle.rule.specs.declared.flow_set.FlowSet.{FlowSet}
use Rattle.rule.proofs.Distinct.{distinct_parts, distinct_times, times_distinct, proper_taken, distinct_short, flow_range}
use Rattle.rule.proofs.Members.{times_append, marks_times, marks_push, has_marks}
use Rattle.rule.proofs.Told.{table_more, leading_at, leading_stops, leading_most}
use Rattle.latency.specs.declared.settled.Settled.{Settled}
use Rattle.latency.specs.Settlements.{overs_in, bounds_in}
use Rattle.interference.specs.Rules.{solution_J, all_settled, bound_J, meaning_J}
use Rattle.latency.specs.Settling.{Holds, Settling, Ready}
use Rattle.interference.specs.Tables.{total, row, of_flow}
use Rattle.interference.proofs.Kept.{marks_within, marks_among, distinct_flows}
use Rattle.interference.proofs.LawsOfJ.{bound_J_is}
use Rattle.interference.proofs.Sums.{total_reverse}

-- a list without repeats has none in another order, nor in a part
times_total : (g : ℕ) (gs : List ℕ) → times g gs ≡ total (λ h. cond (eqb g h) 1 0) gs
times_total g [] = refl
times_total g (h ∷ gs) = ap (λ n. cond (eqb g h) 1 0 + n) (times_total g gs)

times_reverse : (g : ℕ) (gs : List ℕ) → times g (reverse gs) ≡ times g gs
times_reverse g gs = times_total g (reverse gs) ∙ total_reverse (λ h. cond (eqb g h) 1 0) gs ∙ sym (times_total g gs)

pub distinct_reverse : (n : ℕ) (gs : List ℕ) → distinct n gs ≡ true → distinct n (reverse gs) ≡ true
distinct_reverse n gs once = times_distinct n (reverse gs) (λ g. omega (arith, times_reverse g gs, distinct_times n gs once g))

pub distinct_take : (n : ℕ) (gs : List ℕ) (k : ℕ) → distinct n gs ≡ true → distinct n (take k gs) ≡ true
distinct_take n gs k once =
    times_distinct n (take k gs) (λ g. omega (arith, times_append g (take k gs) (drop k gs), ap (times g) (take-append-drop k gs), distinct_times n gs once g))

pub marks_reverse : (gs : List ℕ) → marks (reverse gs) ≡ marks gs
marks_reverse gs = marks_times (reverse gs) gs (λ g. times_reverse g gs)

-- a proper question is proper in another order
pub proper_reverse : (n f : ℕ) (above : List ℕ) → proper n f above ≡ true → proper n f (reverse above) ≡ true
proper_reverse n f above asked = times_distinct n (f ∷ reverse above) (λ g. omega (arith, times_reverse g above, distinct_times n (f ∷ above) asked g))

-- the next flow goes before those settled
reverse_more : (list : List ℕ) (k : ℕ) → k < length list → reverse (take (k + 1) list) ≡ get_or list k 0 ∷ reverse (take k list)
reverse_more list k inside = ap reverse (take_more list k 0 inside) ∙ reverse-append (take k list) (get_or list k 0 ∷ [])

module _ (fs : List FlowParameters) where
  -- the flows of the table have solutions
  pub holds_settled : (s : Settled) (above : List ℕ) → Holds fs s above → all_settled fs above ≡ true
  holds_settled s [] holds = refl
  holds_settled s (j ∷ above) holds = and_from (is_some (solution_J fs j above)) (all_settled fs above) (ap is_some holds.1) (holds_settled s above holds.2)

  -- the sets of the table are within the flows
  holds_within : (s : Settled) (n : ℕ) (above : List ℕ) → Holds fs s above → distinct n above ≡ true → (j : ℕ) → among j above ≡ true → within n (row (overs_in s.table) j) ≡ true
  holds_within s n [] holds once j asked = let z : ◌≡◌ {A = ℕ} 0 1 = cc in absurd (omega arith)
  holds_within s n (g ∷ above) holds once j asked =
      let parts = distinct_parts n g above once in
      elim (or_cases (eqb j g) (among j above) asked) [
        | inl here ↦ ap (λ i. within n (row (overs_in s.table) i)) (eqb-true j g here) ∙ ap (within n) holds.0 ∙ marks_within n above parts.2
        | inr later ↦ holds_within s n above holds.2 parts.2 j later
      ]

  -- a flow written beside the table leaves what it has for others
  module _ (s next : Settled) (f r : ℕ) (over : overs_in next.table ≡ ListN.set (overs_in s.table) (f - 1) s.above) (bounds : bounds_in next.table ≡ ListN.set (bounds_in s.table) (f - 1) r) where
    row_other : (j : ℕ) → 1 ≤ j → 1 ≤ f → (j ≡ f → ⊥) → row (overs_in next.table) j ≡ row (overs_in s.table) j
    row_other j some also n =
        ap (λ (sets : List FlowSet). row sets j) over
        ∙ ap (λ (rows : List (List Bool)). get_or rows (j - 1) []) (map-set marks_of (overs_in s.table) (f - 1) s.above)
        ∙ get_or-set_other (map marks_of (overs_in s.table)) (f - 1) (j - 1) (marks_of s.above) [] (λ e. n (omega arith))

    row_own : 1 ≤ f → f ≤ 20 → row (overs_in next.table) f ≡ marks_of s.above
    row_own some few =
        ap (λ (sets : List FlowSet). row sets f) over
        ∙ ap (λ (rows : List (List Bool)). get_or rows (f - 1) []) (map-set marks_of (overs_in s.table) (f - 1) s.above)
        ∙ get_or-set_same (map marks_of (overs_in s.table)) (f - 1) (marks_of s.above) [] (simp length-map (omega (arith, s.sized)))

    bound_other : (j : ℕ) → 1 ≤ j → 1 ≤ f → (j ≡ f → ⊥) → of_flow (bounds_in next.table) j ≡ of_flow (bounds_in s.table) j
    bound_other j some also n = ap (λ (xs : List ℕ). of_flow xs j) bounds ∙ get_or-set_other (bounds_in s.table) (f - 1) (j - 1) r 0 (λ e. n (omega arith))

    bound_own : 1 ≤ f → f ≤ 20 → of_flow (bounds_in next.table) f ≡ r
    bound_own some few = ap (λ (xs : List ℕ). of_flow xs f) bounds ∙ get_or-set_same (bounds_in s.table) (f - 1) r 0 (simp length-map (omega (arith, s.sized)))

    holds_other : (above : List ℕ) → 1 ≤ f → ((j : ℕ) → among j above ≡ true → (1 ≤ j) × (j ≡ f → ⊥)) → Holds fs s above → Holds fs next above
    holds_other [] some others holds = tt
    holds_other (j ∷ above) some others holds =
        let own = others j (or_left (eqb j j) (among j above) (eq-eqb j j refl)) in (
          row_other j own.0 some own.1 ∙ holds.0,
          holds.1 ∙ ap Some (sym (bound_other j own.0 some own.1)),
          holds_other above some (λ k asked. others k (or_right (eqb k j) (among k above) asked)) holds.2,
        )

module _ (fs : List FlowParameters) (list : List ℕ) (few : length fs ≤ 20) (once : distinct (length fs) list ≡ true) (k : ℕ) (s : Settled) (so_far : Settling fs list k s) where
  -- what is settled may be gone by
  pub settling_ready : Ready (length fs) s
  settling_ready = (
    ap (within (length fs)) so_far.above ∙ marks_within (length fs) (take k list) (distinct_take (length fs) list k once),
    λ j asked. holds_within fs s (length fs) (reverse (take k list)) so_far.holds (distinct_reverse (length fs) (take k list) (distinct_take (length fs) list k once)) j
        (marks_among j (reverse (take k list)) (ap (λ set. has set j) (marks_reverse (take k list) ∙ sym so_far.above) ∙ asked)),
  )

  -- the next flow may be asked under those settled, lowest first
  pub reversed_asked : k < length list → proper (length fs) (get_or list k 0) (reverse (take k list)) ≡ true
  reversed_asked inside = proper_reverse (length fs) (get_or list k 0) (take k list) (proper_taken (length fs) list k inside once)

  settled_bound : (o : Option ℕ) → o ≡ solution_J fs (get_or list k 0) (reverse (take k list)) → bound_J fs (get_or list k 0) (take k list) ≡ o
  settled_bound o e = bound_J_is fs (get_or list k 0) (take k list) (holds_settled fs s (reverse (take k list)) so_far.holds) ∙ sym e

  -- after the last flow all bounds are told
  pub settling_done : length list ≤ k → Settling fs list (length (leading (meaning_J fs) [] list)) s
  settling_done past =
      let e : k ≡ length (leading (meaning_J fs) [] list) = omega (arith, so_far.bounded, leading_most (meaning_J fs) [] list) in
      subst (λ i. Settling fs list i s) e so_far

  -- a flow without a solution ends the settling
  pub settling_ends : k < length list → None ≡ solution_J fs (get_or list k 0) (reverse (take k list)) → Settling fs list (length (leading (meaning_J fs) [] list)) s
  settling_ends inside none = elim (cases_lt k (length (leading (meaning_J fs) [] list))) [
    | inl more ↦
        let e = leading_at (meaning_J fs) list k more in
        let d = settled_bound None none in
        let z : ◌≡◌ {A = ℕ} 0 1 = cc in
        absurd (omega arith)
    | inr past ↦
        let e : k ≡ length (leading (meaning_J fs) [] list) = omega (arith, so_far.bounded) in
        subst (λ i. Settling fs list i s) e so_far
  ]

  -- a flow with a solution is settled next
  module _ (inside : k < length list) (r : ℕ) (some : Some r ≡ solution_J fs (get_or list k 0) (reverse (take k list))) (next : Settled) (above : marks_of next.above ≡ put (marks_of s.above) (get_or list k 0) true) (over : overs_in next.table ≡ ListN.set (overs_in s.table) (get_or list k 0 - 1) s.above) (bounds : bounds_in next.table ≡ ListN.set (bounds_in s.table) (get_or list k 0 - 1) r) (told : next.told ≡ one_more s.told r) where
    bounded_more : k < length (leading (meaning_J fs) [] list)
    bounded_more = elim (cases_lt k (length (leading (meaning_J fs) [] list))) [
      | inl more ↦ more
      | inr past ↦
          let at_end : k ≡ length (leading (meaning_J fs) [] list) = omega (arith, so_far.bounded) in
          let e = leading_stops (meaning_J fs) list k at_end inside in
          let d = settled_bound (Some r) some in
          let z : ◌≡◌ {A = ℕ} 0 1 = cc in
          absurd (omega arith)
    ]

    bound_here : get_or (leading (meaning_J fs) [] list) k 0 ≡ r
    bound_here =
        let e = leading_at (meaning_J fs) list k bounded_more in
        let d = settled_bound (Some r) some in
        cc

    told_more : next.told ≡ table (take (k + 1) (leading (meaning_J fs) [] list))
    told_more =
        let all : List ℕ = leading (meaning_J fs) [] list in
        let sized : length (take k all) ≡ k = length-take-le k all so_far.bounded in
        told ∙ ap (λ b. one_more b r) so_far.told
        ∙ table_more (take k all) r (omega (arith, sized, distinct_short (length fs) list few once))
        ∙ ap (λ x. table (take k all ++ x ∷ [])) (sym bound_here)
        ∙ ap table (sym (take_more all k 0 bounded_more))

    asked : proper (length fs) (get_or list k 0) (take k list) ≡ true
    asked = proper_taken (length fs) list k inside once

    range : (1 ≤ get_or list k 0) × (get_or list k 0 ≤ 20)
    range = let r = flow_range (length fs) (get_or list k 0) (distinct_parts (length fs) (get_or list k 0) (take k list) asked).0 in (r.0, omega (arith, r.1))

    others : (j : ℕ) → among j (reverse (take k list)) ≡ true → (1 ≤ j) × (j ≡ get_or list k 0 → ⊥)
    others j h =
        let flows = distinct_flows (length fs) (reverse (take k list)) (distinct_reverse (length fs) (take k list) (distinct_take (length fs) list k once)) j h in
        let bounds = flow_range (length fs) j flows in
        let listed : among j (take k list) ≡ true = sym (has_marks j (take k list) bounds.0 (omega (arith, bounds.1))) ∙ ap (λ set. has set j) (sym (marks_reverse (take k list))) ∙ has_marks j (reverse (take k list)) bounds.0 (omega (arith, bounds.1)) ∙ h in (
          bounds.0,
          λ e.
              let fresh = (distinct_parts (length fs) (get_or list k 0) (take k list) asked).1 in
              let same : among (get_or list k 0) (take k list) ≡ true = ap (λ i. among i (take k list)) (sym e) ∙ listed in
              let z : ◌≡◌ {A = ℕ} 0 1 = cc in
              omega arith,
        )

    pub settling_more : Settling fs list (k + 1) next
    settling_more =
        record {
          bounded = omega (arith, bounded_more);
          told = told_more;
          above = above ∙ ap (λ set. put set (get_or list k 0) true) so_far.above ∙ sym (marks_push (get_or list k 0) (take k list)) ∙ ap marks (sym (take_more list k 0 inside));
          holds = rw (reverse_more list k inside) (
            row_own fs s next (get_or list k 0) r over bounds range.0 range.1 ∙ so_far.above ∙ sym (marks_reverse (take k list)),
            sym some ∙ ap Some (sym (bound_own fs s next (get_or list k 0) r over bounds range.0 range.1)),
            holds_other fs s next (get_or list k 0) r over bounds (reverse (take k list)) range.0 others so_far.holds,
          );
        }

-- nothing is settled yet
pub settling_none : (fs : List FlowParameters) (list : List ℕ) (s : Settled) → s.told ≡ table [] → marks_of s.above ≡ marks [] → Settling fs list 0 s
settling_none fs list s told above = record { bounded = omega arith; told = told; above = above; holds = tt }

-- where the flows of a list have solutions, so have the first of them
all_settled_end : (fs : List FlowParameters) (xs ys : List ℕ) → all_settled fs (xs ++ ys) ≡ true → all_settled fs ys ≡ true
all_settled_end fs [] ys h = h
all_settled_end fs (x ∷ xs) ys h = all_settled_end fs xs ys (and_parts (is_some (solution_J fs x (xs ++ ys))) (all_settled fs (xs ++ ys)) h).1

pub settled_first : (fs : List FlowParameters) (xs ys : List ℕ) → all_settled fs (reverse (xs ++ ys)) ≡ true → all_settled fs (reverse xs) ≡ true
settled_first fs xs ys h = all_settled_end fs (reverse ys) (reverse xs) (rw (reverse-append xs ys) at h)

module _ (fs : List FlowParameters) (f : ℕ) (list : List ℕ) (s : Settled) (so_far : Settling fs list (length (leading (meaning_J fs) [] list)) s) where
  -- all bounds are told
  pub settled_told : s.told ≡ table (leading (meaning_J fs) [] list)
  settled_told = so_far.told ∙ ap table (take_all (length (leading (meaning_J fs) [] list)) (leading (meaning_J fs) [] list) (omega arith))

  pub settled_count : s.told.count ≡ length (leading (meaning_J fs) [] list)
  settled_count = ap (λ b. b.count) settled_told

  -- a flow without a solution leaves those below it without a bound
  pub settled_short : s.told.count < length list → None ≡ bound_J fs f list
  settled_short short = go (all_settled fs (reverse list)) refl
    where
      inside : length (leading (meaning_J fs) [] list) < length list
      inside = omega (arith, settled_count)

      none : bound_J fs (get_or list (length (leading (meaning_J fs) [] list)) 0) (take (length (leading (meaning_J fs) [] list)) list) ≡ None
      none = leading_stops (meaning_J fs) list (length (leading (meaning_J fs) [] list)) refl inside

      go : (b : Bool) → all_settled fs (reverse list) ≡ b → None ≡ cond b (solution_J fs f (reverse list)) None
      go true e =
          let k : ℕ = length (leading (meaning_J fs) [] list) in
          let first : all_settled fs (reverse (take (k + 1) list)) ≡ true = settled_first fs (take (k + 1) list) (drop (k + 1) list) (ap (λ xs. all_settled fs (reverse xs)) (take-append-drop (k + 1) list) ∙ e) in
          let parts = and_parts (is_some (solution_J fs (get_or list k 0) (reverse (take k list)))) (all_settled fs (reverse (take k list))) (rw (reverse_more list k inside) at first) in
          let clash : true ≡ false = sym parts.0 ∙ ap is_some (sym (bound_J_is fs (get_or list k 0) (take k list) parts.1) ∙ none) in
          let z : ◌≡◌ {A = ℕ} 0 1 = cc in
          absurd (omega arith)
      go false e = refl

  -- there are at most as many bounds as flows
  pub settled_few : s.told.count ≤ length list
  settled_few = omega (arith, settled_count, leading_most (meaning_J fs) [] list)

  -- with all flows settled, the bound is the solution under them
  pub settled_whole : length list ≤ s.told.count → (Holds fs s (reverse list)) × (marks_of s.above ≡ marks list) × (bound_J fs f list ≡ solution_J fs f (reverse list))
  settled_whole whole =
      let whole_list : take (length (leading (meaning_J fs) [] list)) list ≡ list = take_all (length (leading (meaning_J fs) [] list)) list (omega (arith, settled_count)) in
      let holds : Holds fs s (reverse list) = subst (λ xs. Holds fs s (reverse xs)) whole_list so_far.holds in
      (holds, so_far.above ∙ ap marks whole_list, bound_J_is fs f list (holds_settled fs s (reverse list) holds))
