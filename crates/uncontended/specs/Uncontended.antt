-- What the rule of a chip without contention means. Assumes nothing.
use Rattle.std.specs.Prelude.{ℕ, ◌-◌, cond, List, Some, None, Option, nat_le, slice_index_or}
use Rattle.rule.specs.Meaning.{Meaning}
use Rattle.uncontended.specs.declared.flow.Flow.{Flow}

-- the basic latency of a flow, if it is no later than the deadline
abbrev pub in_time : Flow → Option ℕ
in_time flow = cond (nat_le flow.latency flow.deadline) (Some flow.latency) None

-- flow number f of a table whose first entry is flow 1
abbrev pub flow_at : List Flow → ℕ → Flow
flow_at table f = slice_index_or table (f - 1) (record { label = 0; deadline = 0; latency = 0 })

-- no flow delays another, so the answers do not look at the flows above
abbrev pub uncontended : ℕ → List Flow → Meaning
uncontended count table =
    record {
      flows = count;
      deadline = λ f. (flow_at table f).deadline;
      label = λ f. (flow_at table f).label;
      bound = λ f above. in_time (flow_at table f);
      floor = λ f set. in_time (flow_at table f);
      ceiling = λ f set. in_time (flow_at table f);
    }
