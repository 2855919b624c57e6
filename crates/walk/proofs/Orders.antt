-- Orders of the flows, and the flows that a list leaves unplaced. Assumes nothing.
--   distinct_fits   a list without repeats is no longer than there are flows
--   full_order      one as long as there are flows is an order; order_length the other way
--   has_unplaced    the unplaced flows are those that stand nowhere in the list
--   unplaced_none   no flow placed
--   set_above       the flows above one of an order are the unplaced ones but for it
--   split, last     a list at one of its members, and at its end
use Rattle.std.proofs.Common.{◌≡◌, ℕ, suc, ◌+◌, ◌≤◌, Bool, true, false, cond, not, ◌&&◌, ◌||◌, eqb, ltb, List, [], ◌∷◌, ◌++◌, length, get_or, sym, refl, ap, ◌∙◌, ⊎_elim, arith}
use Rattle.std.proofs.lemmas.Bool.Decides.{nat_tests}
use Rattle.std.proofs.lemmas.Bool.{both_ways, cases_eq, cases_Bool, eqb-true}
use Rattle.rule.specs.Lists.{is_flow, among, times, distinct, Order, marks, has}
use Rattle.rule.specs.FlowSets.{put, first_flows}
use Rattle.rule.proofs.Members.{among_times, times_append, marks_length, has_marks}
use Rattle.rule.proofs.Distinct.{distinct_times, times_distinct, distinct_size, flow_range, among_flow, has_distinct}
use Rattle.walk.specs.Walk.{unplaced}
use Rattle.walk.proofs.Sets.{has_put_same, has_put_other, put_length, has_less, less_length, has_first, first_length, same_set, size_below, size_above}

-- a list that holds nothing more often than one without repeats has none
pub distinct_fewer : (n : ℕ) (xs ys : List ℕ) → distinct n xs ≡ true → ((g : ℕ) → times g ys ≤ times g xs) → distinct n ys ≡ true
distinct_fewer n xs ys d h = times_distinct n ys (λ g. let t = distinct_times n xs d g in let u = h g in omega arith)

pub order_distinct : (n : ℕ) (xs : List ℕ) → Order n xs → distinct n xs ≡ true
order_distinct n xs o = times_distinct n xs (λ g. let t = o g in omega arith)

pub unplaced_length : (n : ℕ) (ps : List ℕ) → length (unplaced n ps) ≡ 20
unfolding unplaced
unplaced_length n ps = less_length (first_flows n) (marks ps) ∙ first_length n

-- with no flow placed all are unplaced, and with one more placed it is out
pub unplaced_none : (n : ℕ) → first_flows n ≡ unplaced n []
unfolding unplaced
unplaced_none n =
    same_set (first_flows n) (unplaced n []) (first_length n) (unplaced_length n [])
    (λ g h l. sym (has_less (first_flows n) (marks []) g ∙ ap (λ (b : Bool). has (first_flows n) g && not b) (has_marks g [] h l) ∙ all (has (first_flows n) g)))
  where
    all : (b : Bool) → (b && true) ≡ b
    all true = refl
    all false = refl

-- a list with a flow among its members
pub split : (g : ℕ) (xs : List ℕ) → among g xs ≡ true → (front : List ℕ) × (back : List ℕ) × (xs ≡ front ++ g ∷ back)
split g [] a = absurd (both_ways false refl a)
split g (x ∷ xs) a = each (eqb g x) refl (λ q. split g xs q) a
  where
    each : (b : Bool) → eqb g x ≡ b → (among g xs ≡ true → (front : List ℕ) × (back : List ℕ) × (xs ≡ front ++ g ∷ back)) → (b || among g xs) ≡ true → (front : List ℕ) × (back : List ℕ) × (x ∷ xs ≡ front ++ g ∷ back)
    each true e h q = ([], xs, ap (λ (y : ℕ). y ∷ xs) (sym (eqb-true g x e)))
    each false e h q = let r = h q in (x ∷ r.0, r.1, ap (λ (ys : List ℕ). x ∷ ys) r.2)

-- a list with a flow at its end
pub last : (x : ℕ) (xs : List ℕ) → (ys : List ℕ) × (g : ℕ) × (x ∷ xs ≡ ys ++ g ∷ [])
last x [] = ([], x, refl)
last x (y ∷ xs) = let r = last y xs in (x ∷ r.0, r.1, ap (λ (zs : List ℕ). x ∷ zs) r.2)

module _ (n : ℕ) (few : n ≤ 20) where
  -- a list without repeats is no longer than there are flows
  pub distinct_fits : (xs : List ℕ) → distinct n xs ≡ true → length xs ≤ n
  distinct_fits xs d = omega (arith, distinct_size n xs few d, size_below n (marks xs) past)
    where
      past : (j : ℕ) → n ≤ j → get_or (marks xs) j false ≡ false
      past j l = ⊎_elim no_flow (λ (e : has (marks xs) (suc j) ≡ false). e) (cases_Bool (has (marks xs) (suc j)))
        where
          no_flow : has (marks xs) (suc j) ≡ true → has (marks xs) (suc j) ≡ false
          no_flow e = let r = flow_range n (suc j) (among_flow n (suc j) xs d (sym (has_distinct n xs few d (suc j)) ∙ e)) in absurd (omega arith)

  -- an order has a level for each flow
  pub order_length : (xs : List ℕ) → Order n xs → length xs ≡ n
  order_length xs o =
      let d = order_distinct n xs o in
      let s = distinct_size n xs few d in
      let a = distinct_fits xs d in
      let l = marks_length xs in
      let b = size_above n (marks xs) (omega arith) (λ j h. has_distinct n xs few d (suc j) ∙ among_times (suc j) xs ∙ ap (ltb 0) (o (suc j)) ∙ grind (arith, nat_tests)) in
      omega arith

  -- a list without repeats with as many entries as there are flows is an order
  pub full_order : (xs : List ℕ) → distinct n xs ≡ true → length xs ≡ n → Order n xs
  full_order xs d l g = each (is_flow n g) refl (among g xs) refl
    where
      each : (b : Bool) → is_flow n g ≡ b → (c : Bool) → among g xs ≡ c → times g xs ≡ cond (is_flow n g) 1 0
      each false e c a = let t = distinct_times n xs d g in grind (arith, nat_tests)
      each true e true a = let t = distinct_times n xs d g in let u = among_times g xs in grind (arith, nat_tests)
      each true e false a = let f : distinct n (g ∷ xs) ≡ true = rw (e, a) d in let t = distinct_fits (g ∷ xs) f in absurd (omega arith)

  -- the unplaced flows are those that stand nowhere in the list
  pub has_unplaced : (ps : List ℕ) (g : ℕ) → has (unplaced n ps) g ≡ (is_flow n g && not (among g ps))
  unfolding unplaced
  has_unplaced ps g =
      has_less (first_flows n) (marks ps) g ∙ ap (λ (b : Bool). b && not (has (marks ps) g)) (has_first n g few) ∙ each (is_flow n g) refl
    where
      each : (b : Bool) → is_flow n g ≡ b → (b && not (has (marks ps) g)) ≡ (b && not (among g ps))
      each false e = refl
      each true e = let r = flow_range n g e in let s = r.1 in ap not (has_marks g ps r.0 (omega arith))

  -- the flows above one of an order are the unplaced ones but for it
  pub set_above : (above : List ℕ) (p : ℕ) (ps : List ℕ) → Order n (above ++ p ∷ ps) → marks above ≡ put (unplaced n ps) p false
  set_above above p ps o = same_set (marks above) (put (unplaced n ps) p false) (marks_length above) (put_length (unplaced n ps) p false ∙ unplaced_length n ps) each
    where
      at_p : times p above + suc (times p ps) ≡ cond (is_flow n p) 1 0
      at_p = let t = o p in let u = times_append p above (p ∷ ps) in grind (arith, nat_tests)

      flow : is_flow n p ≡ true
      flow = let t = at_p in grind (arith, nat_tests)

      each : (g : ℕ) → 1 ≤ g → g ≤ 20 → has (marks above) g ≡ has (put (unplaced n ps) p false) g
      each g h l = has_marks g above h l ∙ among_times g above ∙ ⊎_elim same other (cases_eq g p)
        where
          same : g ≡ p → ltb 0 (times g above) ≡ has (put (unplaced n ps) p false) g
          same e =
              let r = flow_range n p flow in
              let t = at_p in
              let k = unplaced_length n ps in
              let none : times p above ≡ 0 = grind (arith, nat_tests) in
              rw e (ap (ltb 0) none ∙ sym (has_put_same (unplaced n ps) p false r.0 (omega arith)))

          other : (g ≡ p → ⊥) → ltb 0 (times g above) ≡ has (put (unplaced n ps) p false) g
          other ne =
              let t = o g in
              let u = times_append g above (p ∷ ps) in
              let v = among_times g ps in
              sym (has_put_other (unplaced n ps) p g false ne ∙ has_unplaced ps g ∙ grind (arith, nat_tests))
