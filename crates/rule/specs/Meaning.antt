-- What a rule means: its answer to every question. Assumes nothing.
--   Meaning     the answers of one rule
--   answer      an answer to a proper question, refusal of any other
--   Passes      each flow of a list has a bound under the flows before it
--   leading     the bounds of the flows of a list, as far as each has one
use Rattle.std.specs.Prelude.{◌≡◌, ℕ, ◌≤◌, Bool, true, cond, List, [], ◌∷◌, ◌++◌, is_some, Some, None, Ok, Err, Option, Result}
use Rattle.chip.specs.declared.refusal.Refusal.{Refusal}
use Rattle.chip.specs.declared.refusal.Refusal.TheVariants.{ImproperQuestion}

-- The answers of a rule. Flows go by number, 1 to `flows`. A bound is asked under the list of the flows above,
-- highest first; a floor and a ceiling under the set of the flows above, 20 marks in no order.
pub record Meaning : Type 0 where
  pub flows : ℕ
  pub deadline : ℕ → ℕ
  pub label : ℕ → ℕ
  pub bound : ℕ → List ℕ → Option ℕ
  pub floor : ℕ → List Bool → Option ℕ
  pub ceiling : ℕ → List Bool → Option ℕ

-- the reply to a question whose answer is x: x if it is proper, and else the refusal
abbrev pub answer : {X : Type 0} → Bool → X → Result X Refusal
answer proper x = cond proper (Ok x) (Err ImproperQuestion)

-- each flow of a list has a bound under the flows above it: those of `above`, then those before it in the list
abbrev pub PassesUnder : Meaning → List ℕ → List ℕ → Type 0
PassesUnder m above [] = Unit {0}
PassesUnder m above (f ∷ fs) = (is_some (m.bound f above) ≡ true) × PassesUnder m (above ++ f ∷ []) fs

-- an order passes when every flow has a bound under the flows above it
abbrev pub Passes : Meaning → List ℕ → Type 0
Passes m levels = PassesUnder m [] levels

-- nothing, or a number no later than the deadline
abbrev pub InTime : Option ℕ → ℕ → Type 0
InTime None deadline = Unit {0}
InTime (Some r) deadline = r ≤ deadline

-- a number, no later than the one given
abbrev pub NoLater : Option ℕ → ℕ → Type 0
NoLater None r = ⊥
NoLater (Some s) r = s ≤ r

-- the bounds told of a list so far, put before those of the rest; nothing more is told after a flow without one
abbrev pub told : Option ℕ → List ℕ → List ℕ
told None rest = []
told (Some r) rest = r ∷ rest

-- the bounds of the flows of a list, each under `above` and those before it, up to the first that has none
abbrev pub leading : Meaning → List ℕ → List ℕ → List ℕ
leading m above [] = []
leading m above (f ∷ fs) = told (m.bound f above) (leading m (above ++ f ∷ []) fs)
