-- The links of the mesh, the route of a flow, and who shares with whom. Assumes nothing.
--   link        the number of a router's link at a port: 216 links in all
--   onward      X-Y routing: along the row first, then along the column
--   links       the route of a flow, link by link
--   shares      some link is in both routes
use Rattle.std.specs.Prelude.{◌≡◌, ℕ, zero, suc, ◌+◌, ◌-◌, ◌*◌, Bool, true, false, cond, ◌||◌, ◌↔◌, List, [], ◌∷◌, replicate, ◌==◌, nat_lt, count_by, slice_set}
use Rattle.chip.specs.declared.parameters.Router.{Router}
use Rattle.chip.specs.declared.parameters.FlowParameters.{FlowParameters}
use Rattle.chip.specs.declared.port.Port.{Port}
use Rattle.chip.specs.declared.port.Port.TheVariants.{In, Out, East, West, North, South}

-- the ports in the order of their links
abbrev pub rank : Port → ℕ
rank In = 0
rank Out = 1
rank East = 2
rank West = 3
rank North = 4
rank South = 5

-- 36 links for each port, one for each router, row by row
abbrev pub link : Port → Router → ℕ
link port r = rank port * 36 + r.row * 6 + r.column

-- how far apart two columns or two rows are
abbrev pub gap : ℕ → ℕ → ℕ
gap a b = (a - b) + (b - a)

-- the number of steps from one router to another (the Manhattan distance)
abbrev pub distance : Router → Router → ℕ
distance a b = gap a.column b.column + gap a.row b.row

-- the port by which a packet leaves a router: along the row to the right column first, then along that
-- column, and at its destination out to the core
abbrev pub onward : Router → Router → Port
onward here there =
    cond (nat_lt here.column there.column) East
    (cond (nat_lt there.column here.column) West
    (cond (nat_lt here.row there.row) North
    (cond (nat_lt there.row here.row) South Out)))

-- the router at the other end of that link: east is one column up, north is one row up
abbrev pub beyond : Port → Router → Router
beyond In r = r
beyond Out r = r
beyond East r = record { column = r.column + 1; row = r.row }
beyond West r = record { column = r.column - 1; row = r.row }
beyond North r = record { column = r.column; row = r.row + 1 }
beyond South r = record { column = r.column; row = r.row - 1 }

-- the outgoing link of each router that a packet steps from, and the out-link of the last
abbrev pub walk : ℕ → Router → Router → List ℕ
walk zero here there = link Out there ∷ []
walk (suc steps) here there = link (onward here there) here ∷ walk steps (beyond (onward here there) here) there

-- the links of a flow's route, from the in-link of its source to the out-link of its destination
unfoldable pub links : FlowParameters → List ℕ
links p = link In p.source ∷ walk (distance p.source p.destination) p.source p.destination

-- whether a link is among those listed
abbrev pub among : ℕ → List ℕ → Bool
among k [] = false
among k (l ∷ ls) = k == l || among k ls

-- whether some link of one list is among the other's
abbrev pub meet : List ℕ → List ℕ → Bool
meet [] ls = false
meet (k ∷ ks) ls = among k ls || meet ks ls

-- two flows share when their routes have a link in common
unfoldable pub shares : FlowParameters → FlowParameters → Bool
shares p q = meet (links p) (links q)

-- the table with a mark at each of these links, beside the marks that it has
abbrev pub marked : List ℕ → List Bool → List Bool
marked [] table = table
marked (k ∷ ks) table = marked ks (slice_set table k true)

-- the table without a mark: one place for each of the 216 links
unfoldable pub no_marks : List Bool
no_marks = replicate 216 false

-- a route as a table of marks, one for each link of the mesh
unfoldable pub route_marks : FlowParameters → List Bool
route_marks p = marked (links p) no_marks

-- how many marks a table has
abbrev pub count : List Bool → ℕ
count = count_by (λ mark. mark)

-- What sharing is, in plain words.
pub record Sharing : Type 0 where
  -- two flows share exactly when some link is in both routes
  pub some_link : (p q : FlowParameters) → (shares p q ≡ true) ↔ ((k : ℕ) × (among k (links p) ≡ true) × (among k (links q) ≡ true))
  -- a flow shares with whoever shares with it
  pub symmetric : (p q : FlowParameters) → shares p q ≡ shares q p
  -- a flow shares with itself
  pub itself : (p : FlowParameters) → shares p p ≡ true
