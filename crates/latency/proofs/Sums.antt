-- Sums over the flows of a set, one after another. Assumes nothing.
use Rattle.std.proofs.Common.{◌≡◌, ℕ, zero, suc, ◌+◌, ◌*◌, ◌<◌, ◌≤◌, Bool, true, eqb, List, [], ◌∷◌, map, length, get_or, sum, sum_by, refl, ap, ◌∙◌, arith}
use Rattle.std.proofs.lemmas.Bool.{or_left, or_right, eq-eqb}
use Rattle.std.proofs.lemmas.List.Sums.{sum-map, sum_by-cons}
use Rattle.std.proofs.lemmas.Iterator.{YieldsList}
use Rattle.std.proofs.lemmas.Iterator.Consumers.{YieldsList-from_first}
use Rattle.std.specs.Iterator.{YieldsFirst}
use Rattle.chip.specs.declared.parameters.FlowParameters.{FlowParameters}
use Rattle.rule.specs.FlowSets.{marks_of, members, flows_left}
use Rattle.rule.specs.declared.flow_set.FlowSet.{FlowSet}
use Rattle.rule.specs.declared.flow_set.flows.Flows.{Flows}
use Rattle.rule.proofs.Members.{among_members}
use Rattle.rule.specs.Lists.{is_flow, among, within}
use Rattle.interference.specs.Interference.{flow, interfering, interferer, interferers}
use Rattle.interference.specs.Solution.{taken, load}
use Rattle.interference.specs.Tables.{total}
use Rattle.interference.proofs.Loads.{part_small}
use Rattle.interference.proofs.Walking as Walking
use Rattle.latency.specs.Chips.{chip, Timely}
use Rattle.latency.specs.declared.traffic.Traffic.{Traffic}
use Rattle.latency.proofs.Climb.{chip_times}

-- what stands at a place of a list stands in it
among_at : (gs : List ℕ) (x k : ℕ) → k < length gs → x ≡ get_or gs k x → among x gs ≡ true
among_at [] x k inside e = absurd (omega arith)
among_at (g ∷ gs) x zero inside e = or_left (eqb x g) (among x gs) (eq-eqb x g e)
among_at (g ∷ gs) x (suc k) inside e = or_right (eqb x g) (among x gs) (among_at gs x k (omega arith) e)

-- what stands at a place of a list of flows is a flow
pub flow_at : (n : ℕ) (gs : List ℕ) (x k : ℕ) → Walking.Flows n gs → k < length gs → x ≡ get_or gs k x → is_flow n x ≡ true
flow_at n gs x k flows inside e = flows x (among_at gs x k inside e)

-- the sum of the weights of a list is its total
total_by : (w : ℕ → ℕ) (gs : List ℕ) → sum_by w gs ≡ total w gs
total_by w [] = refl
total_by w (g ∷ gs) = sum_by-cons w g gs ∙ ap (λ n. w g + n) (total_by w gs)

pub sum_total : (w : ℕ → ℕ) (gs : List ℕ) → sum (map w gs) ≡ total w gs
sum_total w gs = sum-map w gs ∙ total_by w gs

-- a total of small weights
pub total_few : (w : ℕ → ℕ) (m : ℕ) (gs : List ℕ) → ((j : ℕ) → among j gs ≡ true → w j ≤ m) → total w gs ≤ m * length gs
total_few w m [] few = omega arith
total_few w m (g ∷ gs) few =
    let own = few g (or_left (eqb g g) (among g gs) (eq-eqb g g refl)) in
    let rest = total_few w m gs (λ j asked. few j (or_right (eqb j g) (among j gs) asked)) in
    omega (arith, own, rest)

-- the load of interferers is the total of what each takes
pub load_total : (fs : List FlowParameters) (extra : ℕ → ℕ) (r : ℕ) (js : List ℕ) → total (λ j. taken (interferer fs j (extra j)) r) js ≡ load (interferers fs extra js) r
load_total fs extra r [] = refl
load_total fs extra r (j ∷ js) = ap (λ n. taken (interferer fs j (extra j)) r + n) (load_total fs extra r js)

-- the flows of a set come one after another
pub flows_come : (coming : Flows) (set : FlowSet) → flows_left coming ≡ members (marks_of set) → YieldsList (YieldsFirst flows_left) (λ x. x) coming (members (marks_of set))
flows_come coming set e = YieldsList-from_first (λ x. x) flows_left (members (marks_of set)) e

-- what a flow takes is small
pub taken_few : (p : FlowParameters) (extra r : ℕ) → Timely p → extra ≤ 1000000 → r ≤ 1000000 → taken (interfering p extra) r ≤ 4000000
taken_few p extra r times late soon = omega (arith, part_small (r + (p.jitter + extra)) p.period p.latency (omega (arith, times)), times)

module _ (t : Traffic) (set : FlowSet) (inside : within (length (chip t)) (marks_of set) ≡ true) where
  -- one packet of each flow of a set
  pub packets_few : total (λ j. (flow (chip t) j).latency) (members (marks_of set)) ≤ 20000000
  packets_few =
      let few = total_few (λ j. (flow (chip t) j).latency) 1000000 (members (marks_of set)) (λ j asked. omega (arith, chip_times t j (Walking.within_flows (length (chip t)) (marks_of set) inside j asked))) in
      omega (arith, few, Walking.members_few set)

  -- what the flows of a set take
  pub taken_all_few : (extra : ℕ → ℕ) (r : ℕ) → ((j : ℕ) → extra j ≤ 1000000) → r ≤ 1000000 → total (λ j. taken (interferer (chip t) j (extra j)) r) (members (marks_of set)) ≤ 80000000
  taken_all_few extra r late soon =
      let few = total_few (λ j. taken (interferer (chip t) j (extra j)) r) 4000000 (members (marks_of set)) (λ j asked. taken_few (flow (chip t) j) (extra j) r (chip_times t j (Walking.within_flows (length (chip t)) (marks_of set) inside j asked)) (late j) soon) in
      omega (arith, few, Walking.members_few set)

-- no set holds a flow 0
pub members_some : (set : List Bool) (k : ℕ) → among k (members set) ≡ true → 1 ≤ k
members_some set zero asked = let none = among_members 0 set in let z : ◌≡◌ {A = ℕ} 0 1 = cc in absurd (omega arith)
members_some set (suc k) asked = omega arith
