-- The equation of rule J from the table of settled flows: the jitter by the table is the jitter of the rule. Assumes nothing.
use Rattle.std.proofs.Common.{◌≡◌, ℕ, ◌+◌, ◌≤◌, Bool, true, false, cond, not, ◌&&◌, eqb, List, [], ◌∷◌, length, filter, sym, refl, ap, ◌∙◌, ap₂, arith}
use Rattle.std.proofs.lemmas.Bool.{or_left, or_right, eq-eqb}
use Rattle.chip.specs.declared.parameters.FlowParameters.{FlowParameters}
use Rattle.rule.specs.Lists.{among, distinct, proper, marks}
use Rattle.rule.specs.FlowSets.{members}
use Rattle.rule.proofs.Distinct.{distinct_parts, flow_range}
use Rattle.rule.proofs.Members.{among_members, has_marks}
use Rattle.latency.specs.declared.settled.Settled.{Settled}
use Rattle.interference.specs.Solution.{taken, load}
use Rattle.interference.specs.Interference.{share, direct, disturbed, interferer, interferers, counted, lateness, settled, delayed}
use Rattle.interference.specs.Rules.{solution_J}
use Rattle.latency.specs.Settling.{Holds, jitter_by}
use Rattle.interference.specs.Tables.{of_flow, tabled}
use Rattle.interference.proofs.Kept.{among_kept, distinct_flows}
use Rattle.interference.proofs.LawsOfJ.{jitter_J, load_delayed}
use Rattle.interference.proofs.Loads.{load_counted_cons, load_members, settled_same}
use Rattle.interference.proofs.Sums.{any_members}

module _ (fs : List FlowParameters) (s : Settled) (f n : ℕ) (few : n ≤ 20) where
  -- the jitter of a settled flow
  jitter_same : (j : ℕ) (above : List ℕ) → distinct n above ≡ true → Holds fs s (j ∷ above) → jitter_by fs s f j ≡ jitter_J fs f j above
  jitter_same j above once holds =
      ap₂ (λ b r. cond b r 0)
      (ap (λ set. disturbed fs f (members set) j) holds.0 ∙ sym (any_members (λ k. share fs k j && not (share fs k f)) n above few once))
      (sym (ap (lateness fs j) holds.1))

  -- the flows that rule J counts, with the jitter of the table
  delayed_same : (extra : ℕ → ℕ) (t : ℕ) (above : List ℕ) → distinct n above ≡ true → Holds fs s above → ((j : ℕ) → among j above ≡ true → direct fs f j ≡ true → extra j ≡ jitter_by fs s f j) → load (delayed fs f above) t ≡ load (counted fs (direct fs f) extra above) t
  unfolding delayed
  delayed_same extra t [] once holds same = refl
  delayed_same extra t (j ∷ above) once holds same =
      let parts = distinct_parts n j above once in
      let rest = delayed_same extra t above parts.2 holds.2 (λ k asked. same k (or_right (eqb k j) (among k above) asked)) in
      load_delayed fs f j t above
      ∙ ap₂ (λ a b. a + b) (own (direct fs f j) refl (jitter_same j above parts.2 holds)) rest
      ∙ sym (load_counted_cons fs (direct fs f) extra t j above)
    where
      own : (b : Bool) → direct fs f j ≡ b → jitter_by fs s f j ≡ jitter_J fs f j above → cond b (taken (interferer fs j (jitter_J fs f j above)) t) 0 ≡ cond b (taken (interferer fs j (extra j)) t) 0
      own true e jitter = ap (λ m. taken (interferer fs j m) t) (sym jitter ∙ sym (same j (or_left (eqb j j) (among j above) (eq-eqb j j refl)) e))
      own false e jitter = refl

-- the solution under the settled flows is the solution of rule J's equation
pub settled_solution : (fs : List FlowParameters) (s : Settled) (f : ℕ) (set kept : List Bool) (table above : List ℕ) → length fs ≤ 20 → proper (length fs) f above ≡ true → set ≡ marks above → Holds fs s above → members kept ≡ filter (direct fs f) (members set) → ((j : ℕ) → among j (members kept) ≡ true → of_flow table j ≡ jitter_by fs s f j) → settled fs f (tabled fs table kept) ≡ solution_J fs f above
settled_solution fs s f set kept table above few asked e holds kept-is same =
    settled_same fs f (tabled fs table kept) (delayed fs f above) loads
  where
    once : distinct (length fs) above ≡ true
    once = (distinct_parts (length fs) f above asked).2

    inside : (j : ℕ) → among j above ≡ true → direct fs f j ≡ true → among j (members kept) ≡ true
    inside j h d =
        let range = flow_range (length fs) j (distinct_flows (length fs) above once j h) in
        let member : among j (members (marks above)) ≡ true = among_members j (marks above) ∙ has_marks j above range.0 (omega (arith, range)) ∙ h in
        ap (among j) (kept-is ∙ ap (λ x. filter (direct fs f) (members x)) e) ∙ among_kept (direct fs f) (members (marks above)) j member ∙ d

    loads : (t : ℕ) → load (tabled fs table kept) t ≡ load (delayed fs f above) t
    loads t =
        ap (λ js. load (interferers fs (of_flow table) js) t) (kept-is ∙ ap (λ x. filter (direct fs f) (members x)) e)
        ∙ sym (load_members fs (direct fs f) (of_flow table) t (length fs) above few once)
        ∙ sym (delayed_same fs s f (length fs) few (of_flow table) t above once holds (λ j h d. same j (inside j h d)))
