-- The chip that a rule is about. Assumes nothing.
--   chip                the flows of a chip
--   HasFlow, HasFlows   a number, or each of a set, is a flow of a chip
--   Timely              the times of a flow
--   Sharers             a set holds the flows that share with one
use Rattle.std.specs.Prelude.{◌≡◌, ℕ, ◌<◌, ◌≤◌, Bool, true, List, length}
use Rattle.chip.specs.declared.flow.Flow.{Flow}
use Rattle.chip.specs.declared.parameters.FlowParameters.{FlowParameters}
use Rattle.chip.specs.declared.route.Route.{Route}
use Rattle.rule.specs.FlowSets.{marks_of}
use Rattle.rule.specs.declared.flow_set.FlowSet.{FlowSet}
use Rattle.rule.specs.Lists.{is_flow, within}
use Rattle.latency.specs.declared.traffic.Traffic.{Traffic}
use Rattle.interference.specs.Interference.{flow}
use Rattle.interference.specs.Tables.{chip_of, routed, sharers}

-- the flows of a chip
unfoldable pub chip : Traffic → List FlowParameters
chip t = chip_of t.count t.flows

-- a flow sends within its deadline, and is due before it is released again
abbrev pub Timely : FlowParameters → Type 0
Timely p = (1 ≤ p.latency) × (p.latency ≤ p.deadline) × (p.deadline ≤ p.period) × (p.period ≤ 1000000) × (p.jitter < p.period)

-- a number is that of a flow of a chip
abbrev pub HasFlow : List FlowParameters → ℕ → Type 0
HasFlow fs f = is_flow (length fs) f ≡ true

-- and so is each of a set
abbrev pub HasFlows : List FlowParameters → List Bool → Type 0
HasFlows fs set = within (length fs) set ≡ true

-- a set holds the flows, of those with these routes, that share with a flow of theirs
abbrev pub Sharers : List Route → Flow → FlowSet → Type 0
Sharers routes own set = (f : ℕ) → flow (routed routes) f ≡ own.parameters → marks_of set ≡ sharers (routed routes) f (length routes)
