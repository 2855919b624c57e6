-- The reserve layer: a fixed number of ticks on every bound, floor and ceiling. Assumes nothing.
use Rattle.std.specs.Prelude.{ℕ, ◌+◌, cond, Some, None, Option, nat_le}
use Rattle.rule.specs.Meaning.{Meaning}

-- an answer with the reserve added; nothing where the sum passes the deadline
abbrev pub reserved : ℕ → ℕ → Option ℕ → Option ℕ
reserved reserve deadline None = None
reserved reserve deadline (Some r) = cond (nat_le (r + reserve) deadline) (Some (r + reserve)) None

-- a rule with the reserve on its bounds, floors and ceilings; everything else comes from below
abbrev pub with_reserve : ℕ → Meaning → Meaning
with_reserve reserve m =
    record {
      flows = m.flows;
      deadline = m.deadline;
      label = m.label;
      bound = λ f above. reserved reserve (m.deadline f) (m.bound f above);
      floor = λ f set. reserved reserve (m.deadline f) (m.floor f set);
      ceiling = λ f set. reserved reserve (m.deadline f) (m.ceiling f set);
    }
