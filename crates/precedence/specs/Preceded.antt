-- The precedence layer keeps the laws of any rule below. Assumes nothing.
use Rattle.std.specs.Prelude.{◌≡◌, ℕ, ◌+◌, ◌<◌, ◌≤◌, Bool, true, false, cond, ◌&&◌, ◌⊎◌, List, [], ◌∷◌, ◌++◌, length, take, is_some, Some, None, Ok, Option, Result, ◌==◌, slice_index, refl}
use Rattle.std.specs.List.{list_any}
use Rattle.std.proofs.Common.{sym, ap, ap₂, ◌∙◌, inl, inr, ⊎_elim, arith}
use Rattle.std.proofs.lemmas.Bool.{or_parts, or_from, or_cases, or_left, or_right, both_ways, cond_both, cond-true, cond-false, cases_lt}
use Rattle.std.proofs.lemmas.Bool.Decides.{nat_tests}
use Rattle.chip.specs.declared.refusal.Refusal.{Refusal}
use Rattle.rule.specs.Questions.{table, one_more, asked_bound, asked_bounds}
use Rattle.rule.specs.declared.bounds.Bounds.{Bounds}
use Rattle.rule.specs.Laws.{Lawful}
use Rattle.rule.specs.Lists.{is_flow, among, distinct, proper, marks, has, Struck}
use Rattle.rule.specs.Lists.Struck.{none, kept, out}
use Rattle.rule.specs.Meaning.{Meaning, PassesUnder, InTime, NoLater, leading}
use Rattle.rule.proofs.Distinct.{distinct_parts, flow_range, has_distinct, proper_taken}
use Rattle.rule.proofs.Told.{Telling, Sound, telling_more, telling_ends, telling_all, all_told}
use Rattle.rule.proofs.Below.{Below, BoundsBelow, Beside, below_at, below_most, below_stops, beside_told, padded}
use Rattle.precedence.specs.declared.pair.Pair.{Pair}
use Rattle.precedence.specs.Pairs.{laters, held_back, with_pairs}

-- a test that holds of no more flows than another
any_fewer : (gs : List ℕ) (test fewer : ℕ → Bool) → ((g : ℕ) → fewer g ≡ true → test g ≡ true) → list_any test gs ≡ false → list_any fewer gs ≡ false
any_fewer [] test fewer h e = refl
any_fewer (g ∷ gs) test fewer h e =
    let p = or_parts (test g) (list_any test gs) e in
    or_from (fewer g) (list_any fewer gs) (still (fewer g) refl p.0) (any_fewer gs test fewer h p.1)
  where
    still : (b : Bool) → fewer g ≡ b → test g ≡ false → fewer g ≡ false
    still true q n = absurd (both_ways (test g) n (h g q))
    still false q n = q

-- two tests that agree
pub any_same : (gs : List ℕ) (test same : ℕ → Bool) → ((g : ℕ) → test g ≡ same g) → list_any test gs ≡ list_any same gs
any_same [] test same h = refl
any_same (g ∷ gs) test same h = let p = h g in let q = any_same gs test same h in cc

struck_among : {fewer above : List ℕ} → Struck fewer above → (g : ℕ) → among g fewer ≡ true → among g above ≡ true
struck_among none g a = a
struck_among (kept {g = h} {gs = gs} {hs = hs} s) g a =
    ⊎_elim (λ e. or_left (g == h) (among g hs) e) (λ e. or_right (g == h) (among g hs) (struck_among s g e)) (or_cases (g == h) (among g gs) a)
struck_among (out {g = h} {hs = hs} s) g a = or_right (g == h) (among g hs) (struck_among s g a)

-- an answer that a pair may hold back
module _ (h : Bool) where
  kept_timely : (o : Option ℕ) (d : ℕ) → InTime o d → InTime (cond h None o) d
  kept_timely o d t = cond_both h None o (λ x. InTime x d) (λ e. tt) (λ e. t)

  kept_some : (o : Option ℕ) → is_some (cond h None o) ≡ true → is_some o ≡ true
  kept_some o = each h
    where
      each : (b : Bool) → is_some (cond {A = Option ℕ} b None o) ≡ true → is_some o ≡ true
      each true e = absurd (both_ways false refl e)
      each false e = e

-- of two answers, one no later than the other and held back no more, the pairs make two such
kept_later : (h less : Bool) (o p : Option ℕ) (s : ℕ) → (h ≡ false → less ≡ false) → cond h None o ≡ Some s → ((r : ℕ) → o ≡ Some r → NoLater p r) → NoLater (cond less None p) s
kept_later true less o p s k e l = let z : ◌≡◌ {A = ℕ} 0 1 = cc in absurd (omega arith)
kept_later false less o p s k e l = rw (k refl) (l s e)

passes_below : (ps : List Pair) (m : Meaning) (above list : List ℕ) → PassesUnder (with_pairs ps m) above list → PassesUnder m above list
passes_below ps m above [] p = tt
passes_below ps m above (f ∷ fs) p =
    (kept_some (held_back ps f (λ g. among g above)) (m.bound f above) p.0, passes_below ps m (above ++ f ∷ []) fs p.1)

-- a flow of a rule is one of 1 to 20
flow_among_20 : (n f : ℕ) → n ≤ 20 → is_flow n f ≡ true → is_flow 20 f ≡ true
flow_among_20 n f few e = let r = flow_range n f e in let low = r.0 in let high = r.1 in grind (arith, nat_tests)

-- a flow is held back by a list as by its set
pub held_same : (ps : List Pair) (n f : ℕ) (above : List ℕ) → n ≤ 20 → distinct n above ≡ true → held_back ps f (has (marks above)) ≡ held_back ps f (λ g. among g above)
held_same ps n f above few d = any_same (laters ps f) (has (marks above)) (λ g. among g above) (has_distinct n above few d)

-- the laws of the rule below are kept
pub pairs_lawful : (ps : List Pair) (m : Meaning) → Lawful m → Lawful (with_pairs ps m)
pairs_lawful ps m l =
    record {
      some_flow = l.some_flow;
      few_flows = l.few_flows;
      bound_timely = λ f above p. kept_timely _ (m.bound f above) (m.deadline f) (l.bound_timely f above p);
      floor_timely = λ f set p. kept_timely _ (m.floor f set) (m.deadline f) (l.floor_timely f set p);
      ceiling_timely = λ f set p. kept_timely _ (m.ceiling f set) (m.deadline f) (l.ceiling_timely f set p);
      struck = λ f fewer above s p k e. kept_later (held_back ps f (λ g. among g above)) _ (m.bound f above) (m.bound f fewer) s (any_fewer (laters ps f) (λ g. among g above) (λ g. among g fewer) (struck_among k)) e (λ r q. l.struck f fewer above r p k q);
      floored = λ f above s p e. kept_later (held_back ps f (λ g. among g above)) _ (m.bound f above) (m.floor f (marks above)) s (λ q. same f above p ∙ q) e (λ r q. l.floored f above r p q);
      ceiled = λ f above s p k e. kept_later (held_back ps f (has (marks above))) _ (m.ceiling f (marks above)) (m.bound f above) s (λ q. sym (same f above p) ∙ q) e (λ r q. l.ceiled f above r p (passes_below ps m [] above k) q);
    }
  where
    same : (f : ℕ) (above : List ℕ) → proper m.flows f above ≡ true → held_back ps f (has (marks above)) ≡ held_back ps f (λ g. among g above)
    same f above p = held_same ps m.flows f above l.few_flows (distinct_parts m.flows f above p).2

-- a question about a list, by the test of its set
module _ (ps : List Pair) (m : Meaning) (l : Lawful m) (f : ℕ) (above : List ℕ) (set : List Bool) (e : set ≡ marks above) (h : Bool) (test : h ≡ (is_flow 20 f && held_back ps f (has set))) where
  pub held_told : proper m.flows f above ≡ true → h ≡ held_back ps f (λ g. among g above)
  held_told p =
      let d = distinct_parts m.flows f above p in
      test ∙ ap (λ (b : Bool). b && held_back ps f (has set)) (flow_among_20 m.flows f l.few_flows d.0)
      ∙ ap (λ (x : List Bool). held_back ps f (has x)) e ∙ held_same ps m.flows f above l.few_flows d.2

  pub bound_held : h ≡ true → proper m.flows f above ≡ true → Ok None ≡ asked_bound (with_pairs ps m) f above
  bound_held t p = let q = sym (held_told p) ∙ t in rw (p, q)

  pub bound_below : (h ≡ false) ⊎ (proper m.flows f above ≡ false) → (r : Result (Option ℕ) Refusal) → r ≡ asked_bound m f above → r ≡ asked_bound (with_pairs ps m) f above
  bound_below c r q = q ∙ each c (proper m.flows f above) refl
    where
      each : (h ≡ false) ⊎ (proper m.flows f above ≡ false) → (b : Bool) → proper m.flows f above ≡ b → asked_bound m f above ≡ asked_bound (with_pairs ps m) f above
      each c false p = rw p
      each (inl n) true p = let k = sym (held_told p) ∙ n in rw (p, k)
      each (inr n) true p = absurd (both_ways (proper m.flows f above) n p)

-- the bounds of a list, each from the bound below
module _ (ps : List Pair) (m : Meaning) (list : List ℕ) (b : Bounds) (s : Below m list b) (i : ℕ) (told : Bounds) (so_far : Telling (with_pairs ps m) list i told) where
  asked_above : Sound (with_pairs ps m) list
  asked_above = record { laws = pairs_lawful ps m s.asked.laws; once = s.asked.once }

  inside : i < b.count → i < length list
  inside h = omega (arith, (below_most m list b s).0)

  -- the next flow, by its answer
  module _ (h : i < b.count) where
    next_more : (r : ℕ) → (with_pairs ps m).bound (slice_index list i) (take i list) ≡ Some r → Telling (with_pairs ps m) list (i + 1) (one_more told r)
    next_more r e = telling_more (with_pairs ps m) list i told so_far r (inside h) (omega (arith, (below_most m list b s).1)) e

    next_ends : (with_pairs ps m).bound (slice_index list i) (take i list) ≡ None → Ok told ≡ asked_bounds (with_pairs ps m) list
    next_ends e = all_told (with_pairs ps m) list asked_above told (telling_ends (with_pairs ps m) list i told so_far (inside h) e)

  -- the answer for the next flow, by the test of the set above it
  module _ (set : List Bool) (e : set ≡ marks (take i list)) (held : Bool) (test : held ≡ (is_flow 20 (slice_index list i) && held_back ps (slice_index list i) (has set))) (h : i < b.count) where
    at_flow : (o : Option ℕ) → cond held None (Some (slice_index b.ticks i)) ≡ o → (with_pairs ps m).bound (slice_index list i) (take i list) ≡ o
    at_flow o q =
        ap₂ (λ (x : Bool) (y : Option ℕ). cond x None y)
        (sym (held_told ps m s.asked.laws (slice_index list i) (take i list) set e held test (proper_taken m.flows list i (inside h) s.asked.once)))
        (below_at m list b s i h)
        ∙ q

    pub pairs_more : held ≡ false → Telling (with_pairs ps m) list (i + 1) (one_more told (slice_index b.ticks i))
    pairs_more n = next_more h (slice_index b.ticks i) (at_flow (Some (slice_index b.ticks i)) (cond-false held None (Some (slice_index b.ticks i)) n))

    pub pairs_end : held ≡ true → Ok told ≡ asked_bounds (with_pairs ps m) list
    pairs_end t = next_ends h (at_flow None (cond-true held None (Some (slice_index b.ticks i)) t))

  pub pairs_all : i ≡ b.count → Ok told ≡ asked_bounds (with_pairs ps m) list
  pairs_all e = all_told (with_pairs ps m) list asked_above told (⊎_elim ends all (cases_lt i (length list)))
    where
      nothing : (x : Bool) → cond {A = Option ℕ} x None None ≡ None
      nothing true = refl
      nothing false = refl

      ends : i < length list → told ≡ table (leading (with_pairs ps m) [] list)
      ends h =
          telling_ends (with_pairs ps m) list i told so_far h
          (ap (λ (o : Option ℕ). cond (held_back ps (slice_index list i) (λ g. among g (take i list))) None o) (below_stops m list b s i e h) ∙ nothing _)

      all : length list ≤ i → told ≡ table (leading (with_pairs ps m) [] list)
      all h = telling_all (with_pairs ps m) list i told so_far h

-- the same of these bounds without the padding, and of the flow f with the bound r below that a loop over both lists has come to
module _ (ps : List Pair) (m : Meaning) (list bounds : List ℕ) (s : BoundsBelow m list bounds) (i : ℕ) (told : Bounds) (so_far : Telling (with_pairs ps m) list i told) where
  module _ (f r : ℕ) (at : Beside list bounds i f r) (set : List Bool) (e : set ≡ marks (take i list)) (held : Bool) (test : held ≡ (is_flow 20 f && held_back ps f (has set))) where
    pub paired_inside : i < length list
    paired_inside = inside ps m list (table bounds) (padded list bounds s) i told so_far at.more

    pub paired_flow : (o : Option ℕ) → cond held None (Some r) ≡ o → (with_pairs ps m).bound (slice_index list i) (take i list) ≡ o
    paired_flow o q =
        at_flow ps m list (table bounds) (padded list bounds s) i told so_far set e held (test ∙ ap (λ (g : ℕ). is_flow 20 g && held_back ps g (has set)) at.flow) at.more o
        (ap (λ (x : ℕ). cond held None (Some x)) (sym (beside_told list bounds i f r at)) ∙ q)

    pub paired_more : held ≡ false → Telling (with_pairs ps m) list (i + 1) (one_more told r)
    paired_more n = next_more ps m list (table bounds) (padded list bounds s) i told so_far at.more r (paired_flow (Some r) (cond-false held None (Some r) n))

    pub paired_end : held ≡ true → Ok told ≡ asked_bounds (with_pairs ps m) list
    paired_end t = next_ends ps m list (table bounds) (padded list bounds s) i told so_far at.more (paired_flow None (cond-true held None (Some r) t))

  pub paired_all : i ≡ length bounds → Ok told ≡ asked_bounds (with_pairs ps m) list
  paired_all e = pairs_all ps m list (table bounds) (padded list bounds s) i told so_far e
