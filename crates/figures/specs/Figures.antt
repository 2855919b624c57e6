-- Worked figures of the rules and of the walk, told by their own definitions. Assumes nothing.
--   three_flows     a chip on which the rules differ
--   one_above       a flow under one other that shares with it
--   figures         the table: what a rule answers, and the figure
--   Hold            every answer of a table is its figure
--   searches        the table of searches: a rule, how the walk under it ends, and the bounds of its order
--   Ended           every walk of a table ends so
use Rattle.std.specs.Prelude.{◌≡◌, ℕ, List, [], ◌∷◌, Some, None, Option}
use Rattle.chip.specs.declared.parameters.FlowParameters.{FlowParameters}
use Rattle.chip.specs.declared.parameters.Router.{Router}
use Rattle.rule.specs.Lists.{marks}
use Rattle.rule.specs.Meaning.{Meaning, leading}
use Rattle.precedence.specs.Pairs.{with_pairs}
use Rattle.walk.specs.Walk.{State, going, found, nothing, after, count_of}
use Rattle.interference.specs.Rules.{meaning_D, meaning_J, meaning_L}

-- the router of column x in row 0
abbrev pub at : ℕ → Router
at x = record { column = x; row = 0 }

-- a flow along row 0, without release jitter
abbrev pub along : ℕ → ℕ → ℕ → ℕ → ℕ → ℕ → FlowParameters
along label period deadline latency from to = record { label = label; period = period; deadline = deadline; jitter = 0; latency = latency; source = at from; destination = at to }

-- flow 2 shares with both others, which do not share with one another
abbrev pub three_flows : List FlowParameters
three_flows = along 201 8 8 4 0 1 ∷ along 202 10 10 4 0 2 ∷ along 203 13 13 6 1 2 ∷ []

-- flow 1 with this latency and deadline, and flow 2 that sends 2 ticks every 8 along the same route
abbrev pub one_above : ℕ → ℕ → List FlowParameters
one_above latency deadline = along 1 100 deadline latency 0 1 ∷ along 2 8 8 2 0 1 ∷ []

-- what a rule answers, and the figure that it is to be
pub record Figure : Type 0 where
  pub told : Option ℕ
  pub figure : Option ℕ

-- every answer of a table is its figure
abbrev pub Hold : List Figure → Type 0
Hold [] = Unit {0}
Hold (x ∷ xs) = (x.told ≡ x.figure) × Hold xs

unfoldable pub figures : List Figure
figures =
    -- flow 3 under 1, then 2: rule J asks for 14, past the deadline of 13; under 2, then 1, it tells 10
    record { told = (meaning_J three_flows).bound 3 (1 ∷ 2 ∷ []); figure = None }
    ∷ record { told = (meaning_J three_flows).bound 3 (2 ∷ 1 ∷ []); figure = Some 10 }
    -- under 1, then 2, rule D tells 10, and rule L, which counts flow 1 too, nothing
    ∷ record { told = (meaning_D three_flows).bound 3 (1 ∷ 2 ∷ []); figure = Some 10 }
    ∷ record { told = (meaning_L three_flows).bound 3 (1 ∷ 2 ∷ []); figure = None }
    -- flow 1 under 3, then 2: rule J asks for 12, past the deadline of 8; flow 2 under 3 has 10, its deadline
    ∷ record { told = (meaning_J three_flows).bound 1 (3 ∷ 2 ∷ []); figure = None }
    ∷ record { told = (meaning_J three_flows).bound 2 (3 ∷ []); figure = Some 10 }
    -- flow 3 under flows 1 and 2 in any order: floor 10, no ceiling
    ∷ record { told = (meaning_J three_flows).floor 3 (marks (1 ∷ 2 ∷ [])); figure = Some 10 }
    ∷ record { told = (meaning_J three_flows).ceiling 3 (marks (1 ∷ 2 ∷ [])); figure = None }
    -- latency 9 under one flow: 13, and nothing at a deadline of 12; latency 13: 19
    ∷ record { told = (meaning_D (one_above 9 100)).bound 1 (2 ∷ []); figure = Some 13 }
    ∷ record { told = (meaning_D (one_above 9 12)).bound 1 (2 ∷ []); figure = None }
    ∷ record { told = (meaning_D (one_above 13 100)).bound 1 (2 ∷ []); figure = Some 19 }
    ∷ []

-- a rule, the state that its walk ends in, and the bounds on the levels of the order
pub record Search : Type 0 where
  pub rule : Meaning
  pub ends : State
  pub bounds : List ℕ

-- the order that a walk ended with, level 1 first; none otherwise
abbrev pub order_of : State → List ℕ
order_of (going count sure untried below) = []
order_of (found count order) = order
order_of (nothing count) = []

-- every walk of a table ends so after the placings told, and the flows of its order have these bounds
abbrev pub Ended : List Search → Type 0
Ended [] = Unit {0}
Ended (x ∷ xs) = ((after x.rule (count_of x.ends) ≡ x.ends) × (leading x.rule [] (order_of x.ends) ≡ x.bounds)) × Ended xs

unfoldable pub searches : List Search
searches =
    -- rule D finds flows 1, 2, 3 with the bounds 4, 8, 10 after 3 placings
    record { rule = meaning_D three_flows; ends = found 3 (1 ∷ 2 ∷ 3 ∷ []); bounds = 4 ∷ 8 ∷ 10 ∷ [] }
    -- rule L finds no order, with no placing
    ∷ record { rule = meaning_L three_flows; ends = nothing 0; bounds = [] }
    -- rule J finds flows 2, 1, 3 with the bounds 4, 8, 10 after 5 placings
    ∷ record { rule = meaning_J three_flows; ends = found 5 (2 ∷ 1 ∷ 3 ∷ []); bounds = 4 ∷ 8 ∷ 10 ∷ [] }
    -- where flow 1 must come before flow 2, rule J finds no order, after 3 placings
    ∷ record { rule = with_pairs (record { first = 1; later = 2 } ∷ []) (meaning_J three_flows); ends = nothing 3; bounds = [] }
    ∷ []
