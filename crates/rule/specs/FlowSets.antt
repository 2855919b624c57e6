-- Sets of flows as 20 marks: the marks of a `FlowSet`, and what each call on sets gives. Assumes nothing.
--   marks_of               the marks of a `FlowSet`
--   put, first_flows       a set with one flow put in or out; the flows up to a number
--   both, less             what two sets have in common, and what the first has beyond the second
--   empty, size            whether, and how many, flows are in a set
--   members, flows_left    the flows of a set, smallest first, and those still to come of them
--   Popped                 the smallest flow taken out
use Rattle.std.specs.Prelude.{◌≡◌, ℕ, zero, suc, ◌+◌, ◌/◌, ◌%◌, ◌^◌, ◌≤◌, Bool, true, false, cond, not, ◌&&◌, List, [], ◌∷◌, Some, None, Option, ◌==◌, nat_lt}
use Rattle.std.proofs.Math.ListN as ListN
use Rattle.rule.specs.declared.flow_set.FlowSet.{FlowSet}
use Rattle.rule.specs.declared.flow_set.flows.Flows.{Flows}

-- the lowest k binary digits of a number, lowest first
unfoldable pub digits : ℕ → ℕ → List Bool
digits zero b = []
digits (suc k) b = (b % 2 == 1) ∷ digits k (b / 2)

-- the marks of a set, one for each flow number from 1 up to 20
unfoldable pub marks_of : FlowSet → List Bool
marks_of s = digits 20 s.bits

-- the number whose one digit among k marks flow g; 0 if there is no such flow
abbrev pub digit_of : ℕ → ℕ → ℕ
digit_of k zero = 0
digit_of k (suc i) = cond (nat_lt i k) (2 ^ i) 0

-- a set with flow g put in or taken out; a number that is no flow changes nothing
abbrev pub put : List Bool → ℕ → Bool → List Bool
put set zero mark = set
put set (suc i) mark = ListN.set set i mark

-- k marks, of which the first n stand
abbrev pub firsts : ℕ → ℕ → List Bool
firsts zero n = []
firsts (suc k) zero = false ∷ firsts k zero
firsts (suc k) (suc n) = true ∷ firsts k n

-- the set of the flows up to n
unfoldable pub first_flows : ℕ → List Bool
first_flows n = firsts 20 n

-- the flows that are in both sets
abbrev pub both : List Bool → List Bool → List Bool
both [] others = []
both (mark ∷ set) [] = []
both (mark ∷ set) (other ∷ others) = (mark && other) ∷ both set others

-- the flows of a set that are not in the other
abbrev pub less : List Bool → List Bool → List Bool
less [] others = []
less (mark ∷ set) [] = mark ∷ set
less (mark ∷ set) (other ∷ others) = (mark && not other) ∷ less set others

-- whether no flow is in a set
abbrev pub empty : List Bool → Bool
empty [] = true
empty (mark ∷ set) = not mark && empty set

-- how many flows are in a set
abbrev pub size : List Bool → ℕ
size [] = 0
size (mark ∷ set) = cond mark 1 0 + size set

-- the marked flows of a set whose first mark is for flow i, smallest first
abbrev pub members_from : ℕ → List Bool → List ℕ
members_from i [] = []
members_from i (mark ∷ set) = cond mark (i ∷ members_from (suc i) set) (members_from (suc i) set)

-- the flows of a set, smallest first
abbrev pub members : List Bool → List ℕ
members set = members_from 1 set

-- the flows that are still to come
abbrev pub flows_left : Flows → List ℕ
flows_left flows = members (marks_of flows.left)

-- the smallest flow of a set is taken out of it, if the set has one
abbrev pub Popped : Option ℕ → List Bool → List Bool → Type 0
Popped None before after = (members before ≡ []) × (after ≡ before)
Popped (Some g) before after = (members before ≡ g ∷ members after) × (after ≡ put before g false) × (1 ≤ g) × (g ≤ 20)
