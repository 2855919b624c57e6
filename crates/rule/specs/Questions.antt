-- The reply of a rule to each question, by its meaning: the answer to a proper one, refusal of any other. Assumes nothing.
--   asked_deadline, asked_label, asked_bound, asked_floor, asked_ceiling    one flow
--   asked_bounds                                                           a list of flows in one go
use Rattle.std.specs.Prelude.{ℕ, ◌+◌, ◌-◌, Bool, cond, List, [], ◌++◌, length, set, replicate, Option, Result, nat_lt}
use Rattle.chip.specs.declared.refusal.Refusal.{Refusal}
use Rattle.rule.specs.declared.bounds.Bounds.{Bounds}
use Rattle.rule.specs.Lists.{is_flow, distinct, proper, proper_set}
use Rattle.rule.specs.Meaning.{Meaning, answer, leading}

-- the deadline of flow f
abbrev pub asked_deadline : Meaning → ℕ → Result ℕ Refusal
asked_deadline m f = answer (is_flow m.flows f) (m.deadline f)

-- the label of flow f
abbrev pub asked_label : Meaning → ℕ → Result ℕ Refusal
asked_label m f = answer (is_flow m.flows f) (m.label f)

-- the bound of flow f under the list of the flows above it, highest first
abbrev pub asked_bound : Meaning → ℕ → List ℕ → Result (Option ℕ) Refusal
asked_bound m f above = answer (proper m.flows f above) (m.bound f above)

-- the floor of flow f under the set of the flows above it
abbrev pub asked_floor : Meaning → ℕ → List Bool → Result (Option ℕ) Refusal
asked_floor m f set = answer (proper_set m.flows f set) (m.floor f set)

-- the ceiling of flow f under the set of the flows above it
abbrev pub asked_ceiling : Meaning → ℕ → List Bool → Result (Option ℕ) Refusal
asked_ceiling m f set = answer (proper_set m.flows f set) (m.ceiling f set)

-- so many bounds, padded with 0 to 20 entries
abbrev pub table : List ℕ → Bounds
table ticks = record { count = length ticks; ticks = ticks ++ replicate (20 - length ticks) 0 }

-- bounds with one more after them; 20 bounds take no more
abbrev pub one_more : Bounds → ℕ → Bounds
one_more told r = cond (nat_lt told.count 20) (record { count = told.count + 1; ticks = set told.ticks told.count r }) told

-- the bounds of a list of flows, highest first, each under those before it, up to the first flow that has none
abbrev pub asked_bounds : Meaning → List ℕ → Result Bounds Refusal
asked_bounds m list = answer (distinct m.flows list) (table (leading m [] list))
