-- How a fault is told. Assumes nothing.
use Rattle.std.specs.Prelude.{ℕ, List, ◌++◌, codes}
use Rattle.std.specs.Fmt.{decimal}
use Rattle.chip.specs.Refusals.{number_of}
use Rattle.layout.specs.declared.fault.Fault.{Fault}

-- the number of its cause, and the byte
abbrev pub fault_text : Fault → List ℕ
fault_text f = decimal (number_of f.refusal) ++ codes " at " ++ decimal f.byte
