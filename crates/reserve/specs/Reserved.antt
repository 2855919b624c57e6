-- The reserve layer keeps the laws of any rule below. Assumes nothing.
use Rattle.std.specs.Prelude.{◌≡◌, ℕ, ◌+◌, ◌<◌, ◌≤◌, Bool, true, false, cond, List, [], ◌∷◌, ◌++◌, length, take, is_some, Some, None, Ok, Option, Result, nat_le, slice_index, refl}
use Rattle.std.proofs.Common.{sym, ap, ap₂, ◌∙◌, ⊎_elim, arith}
use Rattle.chip.specs.declared.refusal.Refusal.{Refusal}
use Rattle.std.proofs.lemmas.Bool.{leb-true, le-leb, cases_lt}
use Rattle.rule.specs.declared.bounds.Bounds.{Bounds}
use Rattle.rule.specs.Laws.{Lawful}
use Rattle.rule.specs.Lists.{is_flow}
use Rattle.rule.specs.Meaning.{Meaning, answer, PassesUnder, InTime, NoLater, leading}
use Rattle.rule.specs.Questions.{table, one_more, asked_bounds, asked_deadline}
use Rattle.rule.proofs.Told.{Telling, Sound, telling_more, telling_ends, telling_all, all_told, replied}
use Rattle.rule.proofs.Below.{Below, BoundsBelow, Beside, answered, below_at, below_most, below_stops, bounds_flow, bounds_at, bounds_most, padded}
use Rattle.reserve.specs.Reserves.{reserved, with_reserve}

module _ (t d : ℕ) where
  -- an answer with the reserve is no later than the deadline
  reserved_timely : (o : Option ℕ) → InTime (reserved t d o) d
  reserved_timely None = tt
  reserved_timely (Some r) = each (nat_le (r + t) d) refl
    where
      each : (b : Bool) → nat_le (r + t) d ≡ b → InTime (cond b (Some (r + t)) None) d
      each true e = leb-true (r + t) d e
      each false e = tt

  -- and comes from an answer below
  reserved_some : (o : Option ℕ) → is_some (reserved t d o) ≡ true → is_some o ≡ true
  reserved_some None e = e
  reserved_some (Some r) e = refl

  later : (r s u : ℕ) → nat_le (r + t) d ≡ true → r + t ≡ s → u ≤ r → NoLater (reserved t d (Some u)) s
  later r s u e q h =
      let l = leb-true (r + t) d e in
      let p : u + t ≤ d = omega arith in
      rw (le-leb (u + t) d p) (omega arith)

  -- of two answers, one no later than the other, the reserve makes two such
  reserved_later : (o p : Option ℕ) (s : ℕ) → reserved t d o ≡ Some s → ((r : ℕ) → o ≡ Some r → NoLater p r) → NoLater (reserved t d p) s
  reserved_later None p s e h = let z : ◌≡◌ {A = ℕ} 0 1 = cc in absurd (omega arith)
  reserved_later (Some r) p s e h = each (nat_le (r + t) d) refl p (h r refl) e
    where
      each : (b : Bool) → nat_le (r + t) d ≡ b → (p : Option ℕ) → NoLater p r → cond b (Some (r + t)) None ≡ Some s → NoLater (reserved t d p) s
      each false l p k q = let z : ◌≡◌ {A = ℕ} 0 1 = cc in absurd (omega arith)
      each true l None k q = absurd k
      each true l (Some u) k q = later r s u l (cc) k

passes_below : (t : ℕ) (m : Meaning) (above list : List ℕ) → PassesUnder (with_reserve t m) above list → PassesUnder m above list
passes_below t m above [] p = tt
passes_below t m above (f ∷ fs) p =
    (reserved_some t (m.deadline f) (m.bound f above) p.0, passes_below t m (above ++ f ∷ []) fs p.1)

-- the laws of the rule below are kept
pub reserve_lawful : (t : ℕ) (m : Meaning) → Lawful m → Lawful (with_reserve t m)
reserve_lawful t m l =
    record {
      some_flow = l.some_flow;
      few_flows = l.few_flows;
      bound_timely = λ f above p. reserved_timely t (m.deadline f) (m.bound f above);
      floor_timely = λ f set p. reserved_timely t (m.deadline f) (m.floor f set);
      ceiling_timely = λ f set p. reserved_timely t (m.deadline f) (m.ceiling f set);
      struck = λ f fewer above s p k e. reserved_later t (m.deadline f) (m.bound f above) (m.bound f fewer) s e (λ r q. l.struck f fewer above r p k q);
      floored = λ f above s p e. reserved_later t (m.deadline f) (m.bound f above) (m.floor f _) s e (λ r q. l.floored f above r p q);
      ceiled = λ f above s p k e. reserved_later t (m.deadline f) (m.ceiling f _) (m.bound f above) s e (λ r q. l.ceiled f above r p (passes_below t m [] above k) q);
    }

-- the bounds of a list, each from the bound below
module _ (t : ℕ) (m : Meaning) (list : List ℕ) (b : Bounds) (s : Below m list b) (i : ℕ) (told : Bounds) (so_far : Telling (with_reserve t m) list i told) where
  asked_above : Sound (with_reserve t m) list
  asked_above = record { laws = reserve_lawful t m s.asked.laws; once = s.asked.once }

  inside : i < b.count → i < length list
  inside h = omega (arith, (below_most m list b s).0)

  -- the next flow, by its answer
  module _ (h : i < b.count) where
    next_more : (r : ℕ) → (with_reserve t m).bound (slice_index list i) (take i list) ≡ Some r → Telling (with_reserve t m) list (i + 1) (one_more told r)
    next_more r e = telling_more (with_reserve t m) list i told so_far r (inside h) (omega (arith, (below_most m list b s).1)) e

    next_ends : (with_reserve t m).bound (slice_index list i) (take i list) ≡ None → Ok told ≡ asked_bounds (with_reserve t m) list
    next_ends e = all_told (with_reserve t m) list asked_above told (telling_ends (with_reserve t m) list i told so_far (inside h) e)

  -- the answer for the next flow, by its deadline d
  module _ (d : ℕ) (by-d : ◌≡◌ {A = Result ℕ Refusal} (Ok d) (asked_deadline m (slice_index list i))) (h : i < b.count) where
    at_flow : (o : Option ℕ) → reserved t d (Some (slice_index b.ticks i)) ≡ o → (with_reserve t m).bound (slice_index list i) (take i list) ≡ o
    at_flow o e =
        let same = (answered (is_flow m.flows (slice_index list i)) (m.deadline (slice_index list i)) d by-d).1 in
        ap (reserved t (m.deadline (slice_index list i))) (below_at m list b s i h)
        ∙ ap (λ (x : ℕ). reserved t x (Some (slice_index b.ticks i))) (sym same) ∙ e

    pub reserve_more : (r : ℕ) → reserved t d (Some (slice_index b.ticks i)) ≡ Some r → Telling (with_reserve t m) list (i + 1) (one_more told r)
    reserve_more r e = next_more h r (at_flow (Some r) e)

    pub reserve_ends : reserved t d (Some (slice_index b.ticks i)) ≡ None → Ok told ≡ asked_bounds (with_reserve t m) list
    reserve_ends e = next_ends h (at_flow None e)

  pub reserve_all : i ≡ b.count → Ok told ≡ asked_bounds (with_reserve t m) list
  reserve_all e = all_told (with_reserve t m) list asked_above told (⊎_elim ends all (cases_lt i (length list)))
    where
      ends : i < length list → told ≡ table (leading (with_reserve t m) [] list)
      ends h = telling_ends (with_reserve t m) list i told so_far h (ap (reserved t (m.deadline (slice_index list i))) (below_stops m list b s i e h))

      all : length list ≤ i → told ≡ table (leading (with_reserve t m) [] list)
      all h = telling_all (with_reserve t m) list i told so_far h

-- the same of these bounds without the padding, and of a flow that a loop over both lists has come to
module _ (t : ℕ) (m : Meaning) (list bounds : List ℕ) (s : BoundsBelow m list bounds) (i : ℕ) where
  -- the answer for a flow with a bound below is no refusal
  pub raised : (f r : ℕ) → Beside list bounds i f r → (o : Result (Option ℕ) Refusal) → o ≡ answer (is_flow m.flows f) (reserved t (m.deadline f) (Some r)) → o ≡ Ok ((with_reserve t m).bound (slice_index list i) (take i list))
  raised f r at o e =
      let inside : i < length list = omega (arith, at.more, (bounds_most m list bounds s).0) in
      e ∙ replied (is_flow m.flows f) (reserved t (m.deadline f) (Some r)) (ap (is_flow m.flows) at.flow ∙ bounds_flow m list bounds s i inside)
      ∙ ap₂ (λ (d : ℕ) (b : Option ℕ). Ok (reserved t d b)) (ap m.deadline at.flow) (sym (bounds_at m list bounds s i f r at))

  module _ (told : Bounds) (so_far : Telling (with_reserve t m) list i told) where
    pub raised_more : i < length bounds → (u : ℕ) → (with_reserve t m).bound (slice_index list i) (take i list) ≡ Some u → Telling (with_reserve t m) list (i + 1) (one_more told u)
    raised_more h u e = next_more t m list (table bounds) (padded list bounds s) i told so_far h u e

    pub raised_ends : i < length bounds → (with_reserve t m).bound (slice_index list i) (take i list) ≡ None → Ok told ≡ asked_bounds (with_reserve t m) list
    raised_ends h e = next_ends t m list (table bounds) (padded list bounds s) i told so_far h e

    pub raised_all : i ≡ length bounds → Ok told ≡ asked_bounds (with_reserve t m) list
    raised_all e = reserve_all t m list (table bounds) (padded list bounds s) i told so_far e
