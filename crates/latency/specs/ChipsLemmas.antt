-- The flows of a chip: how many, which, and that their times are sound. Assumes nothing.
use Rattle.std.specs.Prelude.{◌≡◌, ℕ, ◌-◌, ◌≤◌, true, ◌&&◌, List, [], map, length, get_or, take, slice_index_or}
use Rattle.std.proofs.Common.{sym, ◌∙◌, ap, arith}
use Rattle.std.proofs.lemmas.List.{length-map, length-take-le, take-map, get_or-take, get_or-map}
use Rattle.chip.specs.declared.parameters.FlowParameters.{FlowParameters}
use Rattle.chip.specs.declared.flow.Flow.{Flow}
use Rattle.rule.specs.Lists.{is_flow, has}
use Rattle.rule.specs.FlowSets.{marks_of}
use Rattle.rule.proofs.Distinct.{flow_range}
use Rattle.rule.specs.declared.flow_set.FlowSet.{FlowSet}
use Rattle.latency.specs.declared.traffic.Traffic.{Traffic}
use Rattle.latency.specs.Chips.{chip}
use Rattle.interference.specs.Interference.{no_flow, flow, share}

-- a chip has as many flows as it counts
pub chip_length : (t : Traffic) → length (chip t) ≡ t.count
unfolding chip
chip_length t = length-map (take t.count t.flows) (λ f. f.parameters) ∙ length-take-le t.count t.flows (omega arith)

-- the number of a flow is a place of the tables
pub chip_range : (t : Traffic) (f : ℕ) → is_flow (length (chip t)) f ≡ true → (1 ≤ f) × (f ≤ t.count) × (f ≤ 20)
chip_range t f h = let range = flow_range (length (chip t)) f h in omega (arith, chip_length t)

-- flow f stands at place f - 1 of the table
pub chip_flow : (t : Traffic) (f : ℕ) (x : Flow) → is_flow (length (chip t)) f ≡ true → flow (chip t) f ≡ (get_or t.flows (f - 1) x).parameters
unfolding chip
chip_flow t f x h =
    let range = chip_range t f h in
    ap (λ (fs : List FlowParameters). get_or fs (f - 1) no_flow) (sym (take-map (λ y. y.parameters) t.count t.flows))
    ∙ get_or-take t.count (map (λ y. y.parameters) t.flows) (f - 1) no_flow (omega (arith, range))
    ∙ get_or-map (λ y. y.parameters) t.flows (f - 1) x no_flow (omega (arith, range))

-- the set of flow f stands at place f - 1 of the table, and holds the flows that share with f
pub chip_near : (t : Traffic) (f g : ℕ) (x : FlowSet) → is_flow (length (chip t)) f ≡ true → has (marks_of (slice_index_or t.near (f - 1) x)) g ≡ (is_flow (length (chip t)) g && share (chip t) g f)
unfolding chip
chip_near t f g x h =
    let range = chip_range t f h in
    let asked : is_flow t.count f ≡ true = rw (chip_length t) at h in
    ap (λ set. has set g) (sym (get_or-map marks_of t.near (f - 1) x [] (omega (arith, range))))
    ∙ t.shared f g asked
    ∙ ap (λ n. is_flow n g && share (chip t) g f) (sym (chip_length t))

-- a chip has 1 to 20 flows
pub chip_some : (t : Traffic) → 1 ≤ length (chip t)
chip_some t = omega (arith, chip_length t)

pub chip_few : (t : Traffic) → length (chip t) ≤ 20
chip_few t = omega (arith, chip_length t)
