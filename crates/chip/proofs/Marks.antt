-- What the mark table of a route holds: a mark at each link of the route, and nowhere else. Assumes nothing.
use Rattle.std.proofs.Common.{◌≡◌, ℕ, zero, suc, ◌+◌, ◌*◌, ◌/◌, ◌%◌, ◌<◌, ◌≤◌, Bool, true, false, cond, ◌||◌, eqb, ◌⊎◌, List, [], ◌∷◌, length, get_or, set, replicate, sym, refl, ◌∙◌, subst, inl, inr, ⊎_elim, ap, arith, length-set}
use Rattle.std.proofs.lemmas.List.{get_or-set_same, get_or-set_other}
use Rattle.std.proofs.lemmas.List.Sums.{sum_by-set, sum_by-cons}
use Rattle.std.proofs.lemmas.Bool.{false≢true, cases_Bool, or_right}
use Rattle.std.proofs.lemmas.Bool.Decides.{nat_tests, eqb_tells}
use Rattle.chip.specs.declared.parameters.Router.{Router}
use Rattle.chip.specs.declared.parameters.FlowParameters.{FlowParameters}
use Rattle.chip.specs.declared.flow.Flow.{Flow}
use Rattle.chip.specs.declared.port.Port.{Port}
use Rattle.chip.specs.declared.port.Port.TheVariants.{In, Out, East, West, North, South}
use Rattle.chip.specs.Flows.{on_mesh}
use Rattle.chip.specs.Routes.{rank, link, gap, distance, onward, beyond, walk, links, among, marked, no_marks, route_marks, count}
use Rattle.chip.proofs.Sound.{from_mesh, to_mesh}
use Rattle.chip.proofs.Walks.{nearer, stays, no_marks_length}

-- a link of a router on the mesh is one of the 216
pub below : (port : Port) (r : Router) → on_mesh r ≡ true → link port r < 216
below In r h = grind (arith, nat_tests)
below Out r h = grind (arith, nat_tests)
below East r h = grind (arith, nat_tests)
below West r h = grind (arith, nat_tests)
below North r h = grind (arith, nat_tests)
below South r h = grind (arith, nat_tests)

or_false : (b : Bool) → (b || false) ≡ b
or_false true = refl
or_false false = refl

unmarked : (k : ℕ) → get_or no_marks k false ≡ false
unfolding no_marks
unmarked k = blank 216 k
  where
    blank : (n j : ℕ) → get_or (replicate n false) j false ≡ false
    blank zero j = refl
    blank (suc n) zero = refl
    blank (suc n) (suc j) = blank n j

-- each listed link is one of the 216
abbrev pub Fits : List ℕ → Type 0
Fits ks = (k : ℕ) → among k ks ≡ true → k < 216

fits_more : (l : ℕ) (ks : List ℕ) → l < 216 → Fits ks → Fits (l ∷ ks)
fits_more l ks h f k e = split (eqb_tells k l)
  where
    split : ((eqb k l ≡ true) × (k ≡ l)) ⊎ ((eqb k l ≡ false) × (k ≡ l → ⊥)) → k < 216
    split (inl t) = omega (arith, t.1)
    split (inr t) = f k (subst (λ b. (b || among k ks) ≡ true) t.0 e)

fits_walk : (n : ℕ) (here there : Router) → on_mesh here ≡ true → on_mesh there ≡ true → Fits (walk n here there)
fits_walk zero here there h t = fits_more _ [] (below Out there t) (λ k e. absurd (false≢true e))
fits_walk (suc n) here there h t = fits_more _ _ (below (onward here there) here h) (fits_walk n (beyond (onward here there) here) there (stays here there h t) t)

pub fits_links : (p : FlowParameters) → on_mesh p.source ≡ true → on_mesh p.destination ≡ true → Fits (links p)
unfolding links
fits_links p h t = fits_more _ _ (below In p.source h) (fits_walk _ p.source p.destination h t)

-- marking links leaves the marks that were there, and sets those of the links
get_or_marked : (ks : List ℕ) (table : List Bool) → length table ≡ 216 → Fits ks → (k : ℕ) → get_or (marked ks table) k false ≡ (among k ks || get_or table k false)
get_or_marked [] table long f k = refl
get_or_marked (l ∷ ks) table long f k =
    let inside : l < length table = omega (arith, f l (here l ks)) in
    get_or_marked ks (set table l true) (length-set table l true ∙ long) (λ j e. f j (later j e)) k ∙ split inside (eqb_tells k l)
  where
    here : (j : ℕ) (js : List ℕ) → among j (j ∷ js) ≡ true
    here j js = grind (arith, nat_tests)

    later : (j : ℕ) → among j ks ≡ true → among j (l ∷ ks) ≡ true
    later j e = grind (arith, nat_tests)

    split : l < length table → ((eqb k l ≡ true) × (k ≡ l)) ⊎ ((eqb k l ≡ false) × (k ≡ l → ⊥)) → (among k ks || get_or (set table l true) k false) ≡ (among k (l ∷ ks) || get_or table k false)
    split inside (inl t) =
        let mark : get_or (set table l true) k false ≡ true = rw t.1 (get_or-set_same table l true false inside) in
        rw (mark, t.0) (or_right (among k ks) true refl)
    split inside (inr t) = rw (get_or-set_other table l k true false t.1, t.0)

pub route_mark : (p : FlowParameters) → on_mesh p.source ≡ true → on_mesh p.destination ≡ true → (k : ℕ) → get_or (route_marks p) k false ≡ among k (links p)
unfolding route_marks
route_mark p h t k = get_or_marked (links p) no_marks no_marks_length (fits_links p h t) k ∙ rw (unmarked k) (or_false (among k (links p)))

length_marked : (ks : List ℕ) (table : List Bool) → length (marked ks table) ≡ length table
length_marked [] table = refl
length_marked (k ∷ ks) table = length_marked ks (set table k true) ∙ length-set table k true

pub route_long : (p : FlowParameters) → length (route_marks p) ≡ 216
unfolding route_marks
route_long p = length_marked (links p) no_marks ∙ no_marks_length

-- one mark more counts one more
count_set : (table : List Bool) (k : ℕ) → k < length table → get_or table k false ≡ false → count (set table k true) ≡ suc (count table)
count_set table k h e =
    let weight : Bool → ℕ = λ mark. cond mark 1 0 in
    let more = sum_by-set weight table k true false h in
    let none : weight (get_or table k false) ≡ 0 = ap weight e in
    omega (arith, more, none)

-- how far the router of a link lies from another
to_go : Router → ℕ → ℕ
to_go there k = gap (k % 6) there.column + gap ((k % 36) / 6) there.row

to_go_link : (port : Port) (r there : Router) → on_mesh r ≡ true → to_go there (link port r) ≡ distance r there
unfolding to_go
to_go_link port r there h =
    let c : r.column < 6 = grind (arith, nat_tests) in
    let d : r.row < 6 = grind (arith, nat_tests) in
    let i : (rank port * 36 + r.row * 6 + r.column) % 6 ≡ r.column = omega arith in
    let j : ((rank port * 36 + r.row * 6 + r.column) % 36) / 6 ≡ r.row = omega arith in
    rw (i, j)

-- the way on is never a link in from a core
leaves : (here there r : Router) → 36 ≤ link (onward here there) r
leaves here there r = grind (arith, nat_tests)

-- the marked links are links in from a core, or leave routers farther off than d steps
abbrev Fresh : ℕ → Router → List Bool → Type 0
Fresh d there table = (k : ℕ) → get_or table k false ≡ true → (k < 36) ⊎ (d < to_go there k)

-- so a link that leaves a router d steps off is not marked yet
not_yet : (d : ℕ) (there : Router) (table : List Bool) (k : ℕ) → Fresh d there table → 36 ≤ k → to_go there k ≡ d → get_or table k false ≡ false
not_yet d there table k fresh h e = split (cases_Bool (get_or table k false))
  where
    split : (get_or table k false ≡ true) ⊎ (get_or table k false ≡ false) → get_or table k false ≡ false
    split (inl t) = ⊎_elim (λ l. absurd (omega arith)) (λ l. absurd (omega arith)) (fresh k t)
    split (inr t) = t

fresh_more : (d : ℕ) (there : Router) (table : List Bool) (l : ℕ) → Fresh (suc d) there table → to_go there l ≡ suc d → Fresh d there (set table l true)
fresh_more d there table l fresh e k t = split (eqb_tells k l)
  where
    split : ((eqb k l ≡ true) × (k ≡ l)) ⊎ ((eqb k l ≡ false) × (k ≡ l → ⊥)) → (k < 36) ⊎ (d < to_go there k)
    split (inl s) = inr (rw s.1 (omega (arith, e)))
    split (inr s) = ⊎_elim inl (λ h. inr (omega arith)) (fresh k (rw (get_or-set_other table l k true false s.1) at t))

count_walk : (n : ℕ) (here there : Router) (table : List Bool) → on_mesh here ≡ true → on_mesh there ≡ true → distance here there ≡ n → length table ≡ 216 → Fresh n there table → count (marked (walk n here there) table) ≡ suc n + count table
count_walk zero here there table h t e long fresh =
    let self : distance there there ≡ 0 = omega arith in
    let free = not_yet 0 there table (link Out there) fresh (omega arith) (to_go_link Out there there t ∙ self) in
    let more = count_set table (link Out there) (omega (arith, below Out there t)) free in
    omega (arith, more)
count_walk (suc n) here there table h t e long fresh =
    let port = onward here there in
    let far = to_go_link port here there h ∙ e in
    let free = not_yet (suc n) there table (link port here) fresh (leaves here there here) far in
    let more = count_set table (link port here) (omega (arith, below port here h)) free in
    let rest = count_walk n (beyond port here) there (set table (link port here) true) (stays here there h t) t (nearer here there n e) (length-set table _ true ∙ long) (fresh_more n there table _ fresh far) in
    omega (arith, rest, more)

count_blank : (n : ℕ) → count (replicate n false) ≡ 0
count_blank zero = refl
count_blank (suc n) =
    let first = sum_by-cons (λ mark. cond mark 1 0) false (replicate n false) in
    let rest = count_blank n in
    omega (arith, first, rest)

-- a route has its two end links, and one link for each step between
pub route_count : (p : FlowParameters) → on_mesh p.source ≡ true → on_mesh p.destination ≡ true → count (route_marks p) ≡ 2 + distance p.source p.destination
unfolding route_marks links no_marks
route_count p h t =
    let start = link In p.source in
    let inside : start < 216 = below In p.source h in
    let table = set no_marks start true in
    let fresh : Fresh (distance p.source p.destination) p.destination table = λ k m. split k m in
    let more : count table ≡ suc (count no_marks) = count_set no_marks start (omega (arith, no_marks_length)) (unmarked start) in
    let none : count no_marks ≡ 0 = count_blank 216 in
    let rest = count_walk (distance p.source p.destination) p.source p.destination table h t refl (length-set no_marks start true ∙ no_marks_length) fresh in
    omega (arith, rest, more, none)
  where
    split : (k : ℕ) → get_or (set no_marks (link In p.source) true) k false ≡ true → (k < 36) ⊎ (distance p.source p.destination < to_go p.destination k)
    split k m = go (eqb_tells k (link In p.source))
      where
        go : ((eqb k (link In p.source) ≡ true) × (k ≡ link In p.source)) ⊎ ((eqb k (link In p.source) ≡ false) × (k ≡ link In p.source → ⊥)) → (k < 36) ⊎ (distance p.source p.destination < to_go p.destination k)
        go (inl s) = inl (grind (arith, nat_tests))
        go (inr s) = absurd (false≢true (sym (unmarked k) ∙ (rw (get_or-set_other no_marks (link In p.source) k true false s.1) at m)))

pub flow_mark : (f : Flow) (k : ℕ) → get_or (route_marks f.parameters) k false ≡ among k (links f.parameters)
flow_mark f k = route_mark f.parameters (from_mesh f) (to_mesh f) k

pub flow_fits : (f : Flow) → Fits (links f.parameters)
flow_fits f = fits_links f.parameters (from_mesh f) (to_mesh f)

pub flow_count : (f : Flow) → count (route_marks f.parameters) ≡ 2 + distance f.parameters.source f.parameters.destination
flow_count f = route_count f.parameters (from_mesh f) (to_mesh f)
