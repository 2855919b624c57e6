-- The climb to a least solution: where it starts, and that a step passes over no solution. Assumes nothing.
--   Below          what the climb knows at r: nothing below r solves, and the equation asks for at least r
--   below_start    at one packet of each interferer
--   below_more     at the next step
--   climbed        at a solution, and past the limit
use Rattle.std.proofs.Common.{◌≡◌, ℕ, ◌+◌, ◌-◌, ◌<◌, ◌≤◌, true, eqb, ◌⊎◌, List, [], ◌∷◌, length, get_or, Some, None, Option, sym, refl, inl, inr, mul-le-mul_right, le-div_iff_mul-le, arith}
use Rattle.std.proofs.lemmas.Bool.{cases_lt, or_left, or_right, eq-eqb}
use Rattle.chip.specs.declared.parameters.FlowParameters.{FlowParameters}
use Rattle.chip.specs.declared.flow.Flow.{Flow}
use Rattle.rule.specs.Lists.{is_flow, among}
use Rattle.latency.specs.declared.traffic.Traffic.{Traffic}
use Rattle.latency.specs.Chips.{chip, Timely}
use Rattle.interference.specs.Solution.{Interferer, up, load, demand, least, Least}
use Rattle.interference.specs.Interference.{flow, interferers}
use Rattle.interference.specs.Tables.{total}
use Rattle.chip.proofs.Sound.{flow_times}
use Rattle.latency.specs.ChipsLemmas.{chip_flow}
use Rattle.interference.proofs.Fixed.{least_is, only}
use Rattle.interference.proofs.Loads.{load_grows}
use Rattle.interference.proofs.Walking.{Flows}

-- in some time, an interferer sends at least once
up_some : (n t : ℕ) → 1 ≤ n → 1 ≤ t → 1 ≤ up n t
up_some n t some period = let pos : 0 < t = period in (le-div_iff_mul-le pos).1 (omega arith)

-- in some time, every interferer takes at least one packet
packets_least : (fs : List FlowParameters) (extra : ℕ → ℕ) (r : ℕ) (js : List ℕ) → 1 ≤ r → ((j : ℕ) → among j js ≡ true → 1 ≤ (flow fs j).period) → total (λ j. (flow fs j).latency) js ≤ load (interferers fs extra js) r
packets_least fs extra r [] some sound = omega arith
packets_least fs extra r (j ∷ js) some sound =
    let once = up_some (r + ((flow fs j).jitter + extra j)) (flow fs j).period (omega arith) (sound j (or_left (eqb j j) (among j js) (eq-eqb j j refl))) in
    omega (arith, mul-le-mul_right (flow fs j).latency once, packets_least fs extra r js some (λ k h. sound k (or_right (eqb k j) (among k js) h)))

first_of : (flows : List Flow) → 0 < length flows → Flow
first_of [] h = absurd (omega arith)
first_of (x ∷ flows) h = x

-- a flow of a chip has sound times
pub chip_times : (t : Traffic) (f : ℕ) → is_flow (length (chip t)) f ≡ true → Timely (flow (chip t) f)
chip_times t f asked =
    let x : Flow = first_of t.flows (omega arith) in
    rw (chip_flow t f x asked) (flow_times (get_or t.flows (f - 1) x))

-- nothing below r solves r = g r, and g asks for at least r
abbrev pub Below : (ℕ → ℕ) → ℕ → Type 0
Below g r = (r ≤ g r) × ((s : ℕ) → s < r → s ≡ g s → ⊥)

-- a climb starts at one packet of each flow that interferes
pub below_start : (t : Traffic) (base : ℕ) (extra : ℕ → ℕ) (js : List ℕ) → 1 ≤ base → Flows (length (chip t)) js → Below (demand base (interferers (chip t) extra js)) (base + total (λ j. (flow (chip t) j).latency) js)
below_start t base extra js some flows =
    let least_load : (r : ℕ) → 1 ≤ r → total (λ j. (flow (chip t) j).latency) js ≤ load (interferers (chip t) extra js) r = λ r h. packets_least (chip t) extra r js h (λ j asked. omega (arith, chip_times t j (flows j asked))) in (
      omega (arith, least_load (base + total (λ j. (flow (chip t) j).latency) js) (omega arith)),
      λ s below solves. omega (arith, least_load s (omega arith)),
    )

-- a step passes over no solution
pub below_more : (base : ℕ) (xs : List Interferer) (r : ℕ) → Below (demand base xs) r → Below (demand base xs) (demand base xs r)
below_more base xs r h = (omega (arith, load_grows xs r (demand base xs r) h.0, h.0), λ s below solves. go s below solves (cases_lt s r))
  where
    go : (s : ℕ) → s < demand base xs r → s ≡ demand base xs s → (s < r) ⊎ (r ≤ s) → ⊥
    go s below solves (inl before) = h.1 s before solves
    go s below solves (inr after) = omega (arith, load_grows xs r s after)

-- at a solution the climb has the least one
pub climbed : (base limit : ℕ) (xs : List Interferer) (r : ℕ) → Below (demand base xs) r → r ≤ limit → demand base xs r ≡ r → Least (demand base xs) limit (Some r)
climbed base limit xs r h within solves = record { within = within; solves = sym solves; smallest = h.1 }

-- past the limit there is none
pub passed : (base limit : ℕ) (xs : List Interferer) (r : ℕ) → Below (demand base xs) r → limit < r → Least (demand base xs) limit None
passed base limit xs r h past = λ s within solves. h.1 s (omega arith) solves

-- the least solution is the one that the definition searches for
pub as_least : (base limit : ℕ) (xs : List Interferer) (o : Option ℕ) → Least (demand base xs) limit o → o ≡ least base limit xs
as_least base limit xs o h = only (demand base xs) limit o (least base limit xs) h (least_is base limit xs)
