-- Lists of flow numbers and sets of flows: what a proper question is, and what an order is. Assumes nothing.
--   among, times      whether, and how often, a flow stands in a list
--   proper            a question about f under a list names flows only, none twice
--   Order             each flow on exactly one level
--   marks, has        a set of flows: 20 marks, one for each flow number from 1 up
--   proper_set        a question about f under a set names flows only, and f is not in the set
--   Struck            one list is another with flows struck out
use Rattle.std.specs.Prelude.{◌≡◌, ℕ, zero, suc, ◌+◌, Bool, true, false, cond, not, ◌&&◌, ◌||◌, List, [], ◌∷◌, ◌==◌, nat_le, slice_index_or}

-- whether g is one of the flows 1 to n
abbrev pub is_flow : ℕ → ℕ → Bool
is_flow n g = nat_le 1 g && nat_le g n

-- whether g stands in a list
abbrev pub among : ℕ → List ℕ → Bool
among g [] = false
among g (h ∷ hs) = g == h || among g hs

-- how often g stands in a list
abbrev pub times : ℕ → List ℕ → ℕ
times g [] = 0
times g (h ∷ hs) = cond (g == h) 1 0 + times g hs

-- whether a list holds only flows of 1 to n, and none twice
abbrev pub distinct : ℕ → List ℕ → Bool
distinct n [] = true
distinct n (g ∷ gs) = is_flow n g && not (among g gs) && distinct n gs

-- whether the bound of f under a list may be asked: every number is a flow, none stands twice, f is not in the list
abbrev pub proper : ℕ → ℕ → List ℕ → Bool
proper n f above = distinct n (f ∷ above)

-- an order of the flows 1 to n, level 1 first: each flow stands on exactly one level, and nothing else does
abbrev pub Order : ℕ → List ℕ → Type 0
Order n levels = (g : ℕ) → times g levels ≡ cond (is_flow n g) 1 0

-- a set of flows is 20 marks, the first for flow 1; these are the marks of k flows from i up
abbrev pub marks_from : ℕ → ℕ → List ℕ → List Bool
marks_from zero i gs = []
marks_from (suc k) i gs = among i gs ∷ marks_from k (suc i) gs

-- the set of the flows that stand in a list
unfoldable pub marks : List ℕ → List Bool
marks gs = marks_from 20 1 gs

-- whether flow g is in a set; no set holds a flow 0
abbrev pub has : List Bool → ℕ → Bool
has set zero = false
has set (suc i) = slice_index_or set i false

-- whether each marked flow of a set, counted from i, is at most n
abbrev pub within_from : ℕ → ℕ → List Bool → Bool
within_from n i [] = true
within_from n i (mark ∷ set) = (not mark || nat_le i n) && within_from n (suc i) set

-- whether a set holds only flows of 1 to n
abbrev pub within : ℕ → List Bool → Bool
within n set = within_from n 1 set

-- whether the floor or ceiling of f under a set may be asked
abbrev pub proper_set : ℕ → ℕ → List Bool → Bool
proper_set n f set = is_flow n f && within n set && not (has set f)

-- the first list is the second with some of its flows, or none, struck out
pub data Struck : List ℕ → List ℕ → Type 0 where
  none : Struck [] []
  kept : {g : ℕ} {gs hs : List ℕ} → Struck gs hs → Struck (g ∷ gs) (g ∷ hs)
  out : {g : ℕ} {gs hs : List ℕ} → Struck gs hs → Struck gs (g ∷ hs)
