-- The laws that every rule keeps, over its meaning alone and for proper questions only. Assumes nothing.
use Rattle.std.specs.Prelude.{◌≡◌, ℕ, ◌≤◌, Bool, true, List, Some}
use Rattle.rule.specs.Lists.{proper, proper_set, marks, Struck}
use Rattle.rule.specs.Meaning.{Meaning, Passes, InTime, NoLater}

pub record Lawful (m : Meaning) : Type 0 where
  -- a rule has 1 to 20 flows
  pub some_flow : 1 ≤ m.flows
  pub few_flows : m.flows ≤ 20
  -- a bound, floor or ceiling is no later than the deadline
  pub bound_timely : (f : ℕ) (above : List ℕ) → proper m.flows f above ≡ true → InTime (m.bound f above) (m.deadline f)
  pub floor_timely : (f : ℕ) (set : List Bool) → proper_set m.flows f set ≡ true → InTime (m.floor f set) (m.deadline f)
  pub ceiling_timely : (f : ℕ) (set : List Bool) → proper_set m.flows f set ≡ true → InTime (m.ceiling f set) (m.deadline f)
  -- a flow with a bound under a list has one, no later, after flows are struck from the list
  pub struck : (f : ℕ) (fewer above : List ℕ) (r : ℕ) → proper m.flows f above ≡ true → Struck fewer above → m.bound f above ≡ Some r → NoLater (m.bound f fewer) r
  -- a flow with a bound under some arrangement of a set has a floor, no later, under the set
  pub floored : (f : ℕ) (above : List ℕ) (r : ℕ) → proper m.flows f above ≡ true → m.bound f above ≡ Some r → NoLater (m.floor f (marks above)) r
  -- a flow with a ceiling under a set has a bound, no later, under every arrangement of the set in which each
  -- flow has a bound under those above it
  pub ceiled : (f : ℕ) (above : List ℕ) (r : ℕ) → proper m.flows f above ≡ true → Passes m above → m.ceiling f (marks above) ≡ Some r → NoLater (m.bound f above) r
