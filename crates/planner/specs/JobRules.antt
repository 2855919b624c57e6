-- What the rule of a job means: precedence on reserve on the rule of its letter. Assumes nothing.
--   number          the number of the flow with a label
--   numbered        a pair of labels as a pair of flow numbers
--   job_meaning     what a job's contents ask for
--   judged          what a job's rule answers
--   offers          the pairs that stand in places, some of which hold none
--   taken           the pairs that a precedence has after others were offered to it
use Rattle.std.specs.Prelude.{ℕ, suc, cond, List, [], ◌∷◌, map, Some, None, Option, ◌==◌}
use Rattle.std.specs.List.{filter_map}
use Rattle.chip.specs.declared.parameters.FlowParameters.{FlowParameters}
use Rattle.sheet.specs.declared.pair.Pair as sheet
use Rattle.job.specs.Jobs.{Contents}
use Rattle.rule.specs.Meaning.{Meaning}
use Rattle.precedence.specs.declared.pair.Pair.{Pair}
use Rattle.precedence.specs.declared.precedence.Precedence.{Precedence}
use Rattle.reserve.specs.declared.reserve.Reserve.{Reserve}
use Rattle.precedence.specs.Held.{pairs_of, after_add}
use Rattle.precedence.specs.Pairs.{with_pairs}
use Rattle.reserve.specs.Reserves.{with_reserve}
use Rattle.any_rule.specs.declared.any_rule.AnyRule.{AnyRule}
use Rattle.any_rule.specs.AnyRules.{meaning_any, meaning_by}

-- the place, from 0 up, of the flow with this label; past the last if none has it
abbrev pub place : ℕ → List FlowParameters → ℕ
place label [] = 0
place label (p ∷ ps) = cond (label == p.label) 0 (suc (place label ps))

-- the number of the flow with this label
abbrev pub number : List FlowParameters → ℕ → ℕ
number ps label = suc (place label ps)

-- a pair of labels as the pair of the numbers of their flows
abbrev pub numbered : List FlowParameters → sheet.Pair → Pair
numbered ps q = record { first = number ps q.first; later = number ps q.later }

-- an absent reserve is judged as 0
abbrev pub ticks_or_0 : Option ℕ → ℕ
ticks_or_0 None = 0
ticks_or_0 (Some ticks) = ticks

-- the pairs that stand in places
abbrev pub offers : List (Option Pair) → List Pair
offers places = filter_map (λ (place : Option Pair). place) places

-- the job's pairs, on its reserve, on the rule that its letter names for its flows
abbrev pub job_meaning : Contents → Meaning
job_meaning c = with_pairs (map (numbered c.flows) c.pairs) (with_reserve (ticks_or_0 c.reserve) (meaning_by c.letter c.flows))

-- the answers of a precedence on a reserve on one of the three rules
abbrev pub judged : Precedence (Reserve AnyRule) → Meaning
judged r = with_pairs (pairs_of r.pairs) (with_reserve r.rule.ticks.count (meaning_any r.rule.rule))

-- the pairs of a precedence over n flows after others were offered to it, one by one
abbrev pub taken : ℕ → List Pair → List Pair → List Pair
taken n ps [] = ps
taken n ps (q ∷ qs) = taken n (after_add n ps q) qs
