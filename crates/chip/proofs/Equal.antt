-- What `==` computes of routers, flows, reserves and refusals, and that it decides equality. Assumes nothing.
use Rattle.std.specs.Bool.{one_answer}
use Rattle.std.specs.Ordering.{on}
use Rattle.std.proofs.Common.{◌≡◌, Decides, nat_eq, arith, rules}
use Rattle.chip.specs.declared.flow.Flow.{Flow}
use Rattle.chip.specs.declared.refusal.Refusal.{Refusal}
use Rattle.chip.specs.declared.parameters.Router.{Router}
use Rattle.chip.specs.declared.parameters.FlowParameters.{FlowParameters}
use Rattle.chip.specs.declared.ticks.Ticks.{Ticks}
use Rattle.chip.specs.contracts.flow.FlowPartialEq.TheImpl as held
use Rattle.chip.specs.contracts.parameters.RouterPartialEq.TheImpl as router
use Rattle.chip.specs.contracts.parameters.FlowParametersPartialEq.TheImpl as flow
use Rattle.chip.specs.contracts.refusal.RefusalPartialEq.TheImpl as refusal
use Rattle.chip.specs.contracts.ticks.TicksPartialEq.TheImpl as ticks
use Rattle.chip.specs.Equality.{router_eq, flow_eq}
use Rattle.chip.specs.Refusals.{number_of}

pub router_decides : (a b : Router) → Decides ((router.ghosts).eq a b) (a ≡ b)
router_decides a b = search rules

pub flow_decides : (a b : FlowParameters) → Decides ((flow.ghosts).eq a b) (a ≡ b)
flow_decides a b = search rules

-- so do the tests that are written down
pub router_eq_decides : (a b : Router) → Decides (router_eq a b) (a ≡ b)
router_eq_decides a b = search rules

pub flow_eq_decides : (a b : FlowParameters) → Decides (flow_eq a b) (a ≡ b)
flow_eq_decides a b = search rules

-- and they are what `==` computes
pub router_computes : (a b : Router) → (router.ghosts).eq a b ≡ router_eq a b
router_computes a b = one_answer _ _ (router_decides a b) (router_eq_decides a b)

pub flow_computes : (a b : FlowParameters) → (flow.ghosts).eq a b ≡ flow_eq a b
flow_computes a b = one_answer _ _ (flow_decides a b) (flow_eq_decides a b)

-- flows that exist are equal in all that is said of them
pub held_decides : (a b : Flow) → Decides ((held.ghosts).eq a b) (a.parameters ≡ b.parameters)
held_decides a b = flow_decides a.parameters b.parameters

-- reserves of as many ticks are equal
pub ticks_decides : (a b : Ticks) → Decides ((ticks.ghosts).eq a b) (a.count ≡ b.count)
ticks_decides a b = search rules

-- refusals are equal by their numbers
pub refusal_decides : (a b : Refusal) → Decides ((refusal.ghosts).eq a b) (number_of a ≡ number_of b)
refusal_decides a b = search rules

-- so does the test of their numbers, which is what `==` computes
pub number_decides : (a b : Refusal) → Decides (on number_of nat_eq a b) (number_of a ≡ number_of b)
number_decides a b = search rules

pub refusal_computes : (a b : Refusal) → (refusal.ghosts).eq a b ≡ on number_of nat_eq a b
refusal_computes a b = one_answer _ _ (refusal_decides a b) (number_decides a b)

-- no two causes have one number
pub same_cause : (a b : Refusal) → number_of a ≡ number_of b → a ≡ b
same_cause a b e = grind arith
