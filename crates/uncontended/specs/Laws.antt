-- The rule of a chip without contention keeps the laws. Assumes nothing.
use Rattle.std.specs.Prelude.{◌≡◌, ℕ, ◌≤◌, List, Some, None, Option, nat_le}
use Rattle.std.proofs.Common.{le_refl}
use Rattle.std.proofs.lemmas.Bool.{cond_both, leb-true}
use Rattle.rule.specs.Laws.{Lawful}
use Rattle.rule.specs.Meaning.{InTime, NoLater}
use Rattle.uncontended.specs.declared.flow.Flow.{Flow}
use Rattle.uncontended.specs.Uncontended.{in_time, flow_at, uncontended}

-- the answer is no later than the deadline
timely : (flow : Flow) → InTime (in_time flow) flow.deadline
timely flow =
    cond_both (nat_le flow.latency flow.deadline) (Some flow.latency) None (λ o. InTime o flow.deadline) (leb-true flow.latency flow.deadline) (λ e. tt)

-- an answer is no later than itself
no_later : (o : Option ℕ) (r : ℕ) → o ≡ Some r → NoLater o r
no_later o r e = rw e (le_refl r)

pub lawful : (count : ℕ) (table : List Flow) → 1 ≤ count → count ≤ 20 → Lawful (uncontended count table)
lawful count table some few =
    record {
      some_flow = some;
      few_flows = few;
      bound_timely = λ f above p. timely (flow_at table f);
      floor_timely = λ f set p. timely (flow_at table f);
      ceiling_timely = λ f set p. timely (flow_at table f);
      struck = λ f fewer above r p s e. no_later (in_time (flow_at table f)) r e;
      floored = λ f above r p e. no_later (in_time (flow_at table f)) r e;
      ceiled = λ f above r p passes e. no_later (in_time (flow_at table f)) r e;
    }
