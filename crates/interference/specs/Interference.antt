-- Who interferes with a flow of the chip, and by how much: the flows that each rule counts. Assumes nothing.
-- A chip is the list of its flows; they go by number, from 1 up.
--   share        two flows of the chip share a link
--   direct       a flow above f shares with f
--   indirect     a flow above f shares with a direct one and not with f
--   disturbed    some flow shares with a flow above f, and not with f
--   counted      the flows of a list that a rule counts, as interferers
--   delayed      the flows that rule J counts, each with its interference jitter
use Rattle.std.specs.Prelude.{ℕ, ◌+◌, ◌-◌, Bool, false, cond, not, ◌&&◌, ◌||◌, List, [], ◌∷◌, map, Some, None, filter, Option, slice_index_or}
use Rattle.chip.specs.declared.parameters.FlowParameters.{FlowParameters}
use Rattle.chip.specs.Routes.{shares}
use Rattle.interference.specs.Solution.{Interferer, least}

-- what stands for a flow that the chip does not have
abbrev pub no_flow : FlowParameters
no_flow = record { label = 0; period = 0; deadline = 0; jitter = 0; latency = 0; source = record { column = 0; row = 0 }; destination = record { column = 0; row = 0 } }

-- flow number g of a chip
abbrev pub flow : List FlowParameters → ℕ → FlowParameters
flow fs g = slice_index_or fs (g - 1) no_flow

-- whether flow g shares a link with flow f
abbrev pub share : List FlowParameters → ℕ → ℕ → Bool
share fs g f = shares (flow fs g) (flow fs f)

-- whether some flow of a list has a property
abbrev pub any : (ℕ → Bool) → List ℕ → Bool
any p [] = false
any p (g ∷ gs) = p g || any p gs

-- whether flow j, above f, is direct: it shares with f
abbrev pub direct : List FlowParameters → ℕ → ℕ → Bool
direct fs f j = share fs j f

-- whether flow j, above f, is indirect: it shares with a direct flow of `above`, and not with f
abbrev pub indirect : List FlowParameters → ℕ → List ℕ → ℕ → Bool
indirect fs f above j = any (λ k. direct fs f k && share fs j k) above && not (share fs j f)

-- whether some flow of `above` shares with j and not with f, so that j's packets may reach f's route late
abbrev pub disturbed : List FlowParameters → ℕ → List ℕ → ℕ → Bool
disturbed fs f above j = any (λ k. share fs k j && not (share fs k f)) above

-- a flow as an interferer, with interference jitter beside its release jitter
abbrev pub interfering : FlowParameters → ℕ → Interferer
interfering p extra = record { period = p.period; latency = p.latency; offset = p.jitter + extra }

-- flow j as an interferer
abbrev pub interferer : List FlowParameters → ℕ → ℕ → Interferer
interferer fs j extra = interfering (flow fs j) extra

-- flows as interferers, each with its interference jitter
abbrev pub interferers : List FlowParameters → (ℕ → ℕ) → List ℕ → List Interferer
interferers fs extra js = map (λ j. interferer fs j (extra j)) js

-- the flows of a list that count, as interferers
abbrev pub counted : List FlowParameters → (ℕ → Bool) → (ℕ → ℕ) → List ℕ → List Interferer
counted fs counts extra js = interferers fs extra (filter counts js)

-- the least solution within the deadline of the equation of flow f with these interferers
abbrev pub settled : List FlowParameters → ℕ → List Interferer → Option ℕ
settled fs f xs = least (flow fs f).latency (flow fs f).deadline xs

-- by how much flow j may come later than it is released: its solution less its own latency
abbrev pub lateness : List FlowParameters → ℕ → Option ℕ → ℕ
lateness fs j None = 0
lateness fs j (Some r) = r - (flow fs j).latency

-- The flows that rule J counts against f, out of those above f, lowest first: the direct ones, with interference
-- jitter where a flow above them disturbs them.
unfoldable pub delayed : List FlowParameters → ℕ → List ℕ → List Interferer
delayed fs f [] = []
delayed fs f (j ∷ above) =
    let rest : List Interferer = delayed fs f above in
    cond (direct fs f j) (interferer fs j (cond (disturbed fs f above j) (lateness fs j (settled fs j (delayed fs j above))) 0) ∷ rest) rest
