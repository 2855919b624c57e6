-- The meaning of a rule that is any of the three, and of the rule that a letter names. Assumes nothing.
use Rattle.std.specs.Prelude.{List}
use Rattle.chip.specs.declared.parameters.FlowParameters.{FlowParameters}
use Rattle.sheet.specs.declared.letter.Letter.{Letter}
use Rattle.sheet.specs.declared.letter.Letter.TheVariants as letter
use Rattle.rule.specs.Meaning.{Meaning}
use Rattle.any_rule.specs.declared.any_rule.AnyRule.{AnyRule}
use Rattle.any_rule.specs.declared.any_rule.AnyRule.TheVariants.{D, J, L}
use Rattle.latency.specs.Chips.{chip}
use Rattle.interference.specs.Rules.{meaning_D, meaning_J, meaning_L}

-- each rule means what it means by itself
abbrev pub meaning_any : AnyRule → Meaning
meaning_any (D rule) = meaning_D (chip rule.traffic)
meaning_any (J rule) = meaning_J (chip rule.traffic)
meaning_any (L rule) = meaning_L (chip rule.traffic)

-- the rule that a letter names, on the flows of a chip
abbrev pub meaning_by : Letter → List FlowParameters → Meaning
meaning_by letter.D fs = meaning_D fs
meaning_by letter.J fs = meaning_J fs
meaning_by letter.L fs = meaning_L fs
