-- From the tables that the climb goes by to the flows that a rule counts. Assumes nothing.
use Rattle.std.proofs.Common.{◌≡◌, ℕ, zero, suc, ◌-◌, Bool, true, eqb, List, [], ◌∷◌, get_or, replicate, filter, refl, ap, ◌∙◌, ap₂}
use Rattle.std.proofs.lemmas.Bool.{or_left, or_right, eq-eqb}
use Rattle.chip.specs.declared.parameters.FlowParameters.{FlowParameters}
use Rattle.rule.specs.Lists.{among}
use Rattle.rule.specs.FlowSets.{members}
use Rattle.interference.specs.Solution.{Interferer}
use Rattle.interference.specs.Interference.{interferer, interferers, counted, settled}
use Rattle.interference.specs.Tables.{of_flow, tabled}

-- jitters that agree on the flows of a list give the same interferers
interferers_same : (fs : List FlowParameters) (d e : ℕ → ℕ) (js : List ℕ) → ((j : ℕ) → among j js ≡ true → d j ≡ e j) → interferers fs d js ≡ interferers fs e js
interferers_same fs d e [] same = refl
interferers_same fs d e (j ∷ js) same =
    ap₂ (λ n (xs : List Interferer). interferer fs j n ∷ xs) (same j (or_left (eqb j j) (among j js) (eq-eqb j j refl)))
    (interferers_same fs d e js (λ k asked. same k (or_right (eqb k j) (among k js) asked)))

-- a solution under the kept flows of a set, by a table, is the solution under the flows that count
pub solved : (fs : List FlowParameters) (f : ℕ) (set kept : List Bool) (counts : ℕ → Bool) (table : List ℕ) (extra : ℕ → ℕ) → members kept ≡ filter counts (members set) → ((j : ℕ) → among j (members kept) ≡ true → of_flow table j ≡ extra j) → settled fs f (tabled fs table kept) ≡ settled fs f (counted fs counts extra (members set))
solved fs f set kept counts table extra e same =
    ap (settled fs f) (interferers_same fs (of_flow table) extra (members kept) same ∙ ap (interferers fs extra) e)

pub zeros : (k i : ℕ) → ◌≡◌ {A = ℕ} (get_or (replicate k 0) i 0) 0
zeros zero i = refl
zeros (suc k) zero = refl
zeros (suc k) (suc i) = zeros k i

-- a table without jitter
pub no_jitter : (j : ℕ) → of_flow (replicate 20 0) j ≡ 0
no_jitter j = zeros 20 (j - 1)
