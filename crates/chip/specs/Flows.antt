-- When the parameters of a flow are refused, and with which number. Assumes nothing.
--   times_hold, ends_hold   the two rules that a flow's parameters keep
--   flow_fault              the number of the first rule that is broken, 0 for none
--   Answers                 a call's answer goes by such a number
use Rattle.std.specs.Prelude.{◌≡◌, ℕ, Bool, cond, not, ◌&&◌, Ok, Err, Result, ◌==◌, nat_le, nat_lt}
use Rattle.chip.specs.declared.parameters.Router.{Router}
use Rattle.chip.specs.declared.parameters.FlowParameters.{FlowParameters}
use Rattle.chip.specs.declared.refusal.Refusal.{Refusal}
use Rattle.chip.specs.Refusals.{number_of}

-- A call whose first fault has the number n accepts exactly at n = 0, with a value that P holds of,
-- and else is refused with the cause of that number.
abbrev pub Answers : {X : Type 0} → Result X Refusal → ℕ → (X → Type 0) → Type 0
Answers (Ok x) n P = (n ≡ 0) × P x
Answers (Err e) n P = number_of e ≡ n

-- 1 ≤ latency ≤ deadline ≤ period ≤ 1,000,000, and jitter < period
abbrev pub times_hold : FlowParameters → Bool
times_hold p = nat_le 1 p.latency && nat_le p.latency p.deadline && nat_le p.deadline p.period && nat_le p.period 1000000 && nat_lt p.jitter p.period

-- the mesh has columns 0 to 5 and rows 0 to 5
abbrev pub on_mesh : Router → Bool
on_mesh r = nat_lt r.column 6 && nat_lt r.row 6

abbrev pub same_router : Router → Router → Bool
same_router a b = a.column == b.column && a.row == b.row

-- both endpoints lie on the mesh, and they differ
abbrev pub ends_hold : FlowParameters → Bool
ends_hold p = on_mesh p.source && on_mesh p.destination && not (same_router p.source p.destination)

-- times, then endpoints, then the label
abbrev pub flow_fault : FlowParameters → ℕ
flow_fault p = cond (times_hold p) (cond (ends_hold p) (cond (nat_le 1 p.label) 0 7) 6) 5
