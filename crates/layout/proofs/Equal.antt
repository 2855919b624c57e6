-- What `==` computes of faults decides equality. Assumes nothing.
use Rattle.std.proofs.Common.{◌≡◌, Decides, rules}
use Rattle.layout.specs.declared.fault.Fault.{Fault}
use Rattle.layout.specs.contracts.fault.FaultPartialEq.TheImpl as fault

pub fault_decides : (a b : Fault) → Decides ((fault.ghosts).eq a b) (a ≡ b)
fault_decides a b = search rules
