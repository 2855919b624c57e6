-- What a job asks for: a rule by its letter, the flows, a reserve and pairs. Assumes nothing.
use Rattle.std.specs.Prelude.{ℕ, List, Option}
use Rattle.std.specs.Option.{option_map}
use Rattle.chip.specs.declared.parameters.FlowParameters.{FlowParameters}
use Rattle.chip.specs.declared.ticks.Ticks.{Ticks}
use Rattle.job.specs.declared.job.Job.{Job}
use Rattle.sheet.specs.declared.letter.Letter.{Letter}
use Rattle.sheet.specs.declared.pair.Pair.{Pair}
use Rattle.sheet.specs.Pairs.{after_pairing}
use Rattle.sheet.specs.Sheets.{flows_of}

-- The contents of a job. No reserve is told apart from a reserve of 0.
pub record Contents : Type 0 where
  pub letter : Letter
  pub flows : List FlowParameters
  pub reserve : Option ℕ
  pub pairs : List Pair

-- how many ticks a reserve has, if there is one
abbrev pub ticks_of : Option Ticks → Option ℕ
ticks_of = option_map (λ t. t.count)

-- what a job holds
abbrev pub contents : Job → Contents
contents j = record { letter = j.letter; flows = flows_of j.sheet; reserve = ticks_of j.reserve; pairs = j.pairs.items }

-- the contents with another reserve
abbrev pub with_reserve : Option ℕ → Contents → Contents
with_reserve r c = record { letter = c.letter; flows = c.flows; reserve = r; pairs = c.pairs }

-- the contents after one more pair was handed in
abbrev pub with_pair : Pair → Contents → Contents
with_pair q c = record { letter = c.letter; flows = c.flows; reserve = c.reserve; pairs = after_pairing c.flows c.pairs q }
