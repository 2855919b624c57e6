-- The marks of a `FlowSet`: laws over the shut name. Assumes nothing.
use Rattle.std.proofs.Common.{◌≡◌, ℕ, ◌≤◌, List, ◌∷◌, length, arith}
use Rattle.rule.specs.declared.flow_set.FlowSet.{FlowSet}
use Rattle.rule.specs.declared.flow_set.flows.Flows.{Flows}
use Rattle.rule.specs.FlowSets.{marks_of, flows_left}
use Rattle.rule.proofs.Digits.{digits_length}
use Rattle.rule.proofs.Members.{first_range, size_members, size_most}

-- a set has 20 marks
pub marks_of_length : (s : FlowSet) → length (marks_of s) ≡ 20
unfolding marks_of
marks_of_length s = digits_length 20 s.bits

-- what comes of a set is a flow of 1 to 20
pub next_flow : (flows : Flows) (g : ℕ) (gs : List ℕ) → flows_left flows ≡ g ∷ gs → (1 ≤ g) × (g ≤ 20)
next_flow flows g gs e = first_range (marks_of flows.left) g gs (marks_of_length flows.left) e

-- and no more than 20 come
pub few_left : (flows : Flows) → length (flows_left flows) ≤ 20
few_left flows =
    let s = size_members 1 (marks_of flows.left) in
    let m = size_most (marks_of flows.left) in
    let l = marks_of_length flows.left in
    omega arith
