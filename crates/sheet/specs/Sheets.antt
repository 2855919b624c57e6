-- What a draft and a sheet hold: flows in their order, numbered from 1. Assumes nothing.
use Rattle.std.specs.Prelude.{List, map}
use Rattle.chip.specs.declared.parameters.FlowParameters.{FlowParameters}
use Rattle.sheet.specs.declared.draft.Draft.{Draft}
use Rattle.sheet.specs.declared.sheet.Sheet.{Sheet}
use Rattle.sheet.specs.Flows.{said}

-- the flows of a sheet
abbrev pub flows_of : Sheet → List FlowParameters
flows_of s = map said s.flows.items

-- the flows of a draft
abbrev pub drafted : Draft → List FlowParameters
drafted d = flows_of d.sheet
