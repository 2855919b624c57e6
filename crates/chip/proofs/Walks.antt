-- One step of a packet on its way, and the marks that it leaves. Assumes nothing.
use Rattle.std.proofs.Common.{◌≡◌, ℕ, suc, ◌+◌, ◌-◌, ◌<◌, Bool, true, List, length, set, refl, ◌∙◌, subst, arith, length-set}
use Rattle.std.proofs.lemmas.Bool.Decides.{nat_tests}
use Rattle.chip.specs.declared.parameters.Router.{Router}
use Rattle.chip.specs.declared.parameters.FlowParameters.{FlowParameters}
use Rattle.chip.specs.declared.port.Port.TheVariants.{In, Out}
use Rattle.chip.specs.Flows.{on_mesh}
use Rattle.chip.specs.Routes.{link, distance, onward, beyond, walk, links, marked, no_marks, route_marks}

-- a step brings a packet one nearer
pub nearer : (here there : Router) (d : ℕ) → distance here there ≡ suc d → distance (beyond (onward here there) here) there ≡ d
nearer here there d e = grind (arith, nat_tests)

-- and keeps it on the mesh
pub stays : (here there : Router) → on_mesh here ≡ true → on_mesh there ≡ true → on_mesh (beyond (onward here there) here) ≡ true
stays here there h t = grind (arith, nat_tests)

pub no_marks_length : length no_marks ≡ 216
unfolding no_marks
no_marks_length = refl

-- a route begins with the in-link of its source
pub begins : (p : FlowParameters) → marked (walk (distance p.source p.destination) p.source p.destination) (set no_marks (link In p.source) true) ≡ route_marks p
unfolding links route_marks
begins p = refl

-- a packet on its way: `left` steps from its destination, the links behind it marked
pub record Underway (left : ℕ) (here there : Router) (table result : List Bool) : Type 0 where
  pub far : distance here there ≡ left
  pub rest : marked (walk left here there) table ≡ result
  pub sized : length table ≡ 216

pub sets_out : (p : FlowParameters) →
    Underway (distance p.source p.destination) p.source p.destination (set no_marks (link In p.source) true) (route_marks p)
sets_out p = record { far = refl; rest = begins p; sized = length-set no_marks _ true ∙ no_marks_length }

-- one step on, where n - i steps were left
pub goes_on : (n i : ℕ) (here there : Router) (table result : List Bool) → i < n → Underway (n - i) here there table result →
    Underway (n - (i + 1)) (beyond (onward here there) here) there (set table (link (onward here there) here) true) result
goes_on n i here there table result h u =
    let e : n - i ≡ suc (n - (i + 1)) = omega arith in
    record {
      far = nearer here there _ (u.far ∙ e);
      rest = subst (λ m. marked (walk m here there) table ≡ result) e u.rest;
      sized = length-set table _ true ∙ u.sized;
    }

pub arrives : (n : ℕ) (here there : Router) (table result : List Bool) → Underway (n - n) here there table result → set table (link Out there) true ≡ result
arrives n here there table result u =
    let e : n - n ≡ 0 = omega arith in
    subst (λ m. marked (walk m here there) table ≡ result) e u.rest
