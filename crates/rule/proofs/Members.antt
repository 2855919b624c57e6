-- Lists of flows and the sets of their members: the laws that a rule writer wants. Assumes nothing.
--   has_marks           a flow is in the set of a list exactly if it stands in the list
--   marks_cons, -push, -more, -with   one more flow in a list is one more flow in its set
--   marks_same, -times  lists with the same members, or the same counts, have the same set
--   among_members       the members of a set are the flows in it
--   marks_members       a set is the set of its members
--   first_range         the first member of a set of 20 marks is a flow of 1 to 20
--   size_most           a set has no more flows than marks
--   fold_members        going through the members of a set is going through the numbers with a test
use Rattle.std.proofs.Common.{◌≡◌, ℕ, zero, suc, ◌+◌, ◌<◌, ◌≤◌, Bool, true, false, cond, ltb, List, [], ◌∷◌, ◌++◌, length, get_or, take, fold, sym, refl, ap, ap₂, ◌∙◌, add-zero, arith}
use lib.ListN as ListN
use Rattle.std.proofs.lemmas.List.{take_more}
use Rattle.std.proofs.lemmas.Bool.Decides.{nat_tests}
use Rattle.rule.specs.Lists.{among, times, marks_from, marks, has}
use Rattle.rule.specs.FlowSets.{put, size, members_from, members}
use Rattle.rule.proofs.Marks.{cons}

marks_from_length : (k i : ℕ) (gs : List ℕ) → length (marks_from k i gs) ≡ k
marks_from_length zero i gs = refl
marks_from_length (suc k) i gs = ap suc (marks_from_length k (suc i) gs)

-- the set of a list has 20 marks
pub marks_length : (gs : List ℕ) → length (marks gs) ≡ 20
unfolding marks
marks_length gs = marks_from_length 20 1 gs

marks_from_at : (k i j : ℕ) (gs : List ℕ) → j < k → get_or (marks_from k i gs) j false ≡ among (i + j) gs
marks_from_at zero i j gs h = absurd (omega arith)
marks_from_at (suc k) i zero gs h = ap (λ (x : ℕ). among x gs) (sym (add-zero i))
marks_from_at (suc k) i (suc j) gs h =
    let e : suc i + j ≡ i + suc j = omega arith in
    marks_from_at k (suc i) j gs (omega arith) ∙ ap (λ (x : ℕ). among x gs) e

-- a flow is in the set of a list exactly if it stands in the list
pub has_marks : (g : ℕ) (gs : List ℕ) → 1 ≤ g → g ≤ 20 → has (marks gs) g ≡ among g gs
unfolding marks
has_marks zero gs h l = absurd (omega arith)
has_marks (suc i) gs h l =
    let e : 1 + i ≡ suc i = omega arith in
    marks_from_at 20 1 i gs (omega arith) ∙ ap (λ (x : ℕ). among x gs) e

marks_from_same : (k i : ℕ) (xs ys : List ℕ) → ((g : ℕ) → i ≤ g → g < i + k → among g xs ≡ among g ys) → marks_from k i xs ≡ marks_from k i ys
marks_from_same zero i xs ys h = refl
marks_from_same (suc k) i xs ys h =
    cons (h i (omega arith) (omega arith)) (marks_from_same k (suc i) xs ys (λ g l m. h g (omega arith) (omega arith)))

-- lists with the same members have the same set
pub marks_same : (xs ys : List ℕ) → ((g : ℕ) → 1 ≤ g → g ≤ 20 → among g xs ≡ among g ys) → marks xs ≡ marks ys
unfolding marks
marks_same xs ys h = marks_from_same 20 1 xs ys (λ g l m. h g l (omega arith))

-- a flow stands in a list when it stands there at least once
pub among_times : (g : ℕ) (gs : List ℕ) → among g gs ≡ ltb 0 (times g gs)
among_times g [] = refl
among_times g (h ∷ hs) = let t = among_times g hs in grind (arith, nat_tests)

-- lists with the same counts have the same set
pub marks_times : (xs ys : List ℕ) → ((g : ℕ) → times g xs ≡ times g ys) → marks xs ≡ marks ys
marks_times xs ys h = marks_same xs ys (λ g l m. among_times g xs ∙ ap (ltb 0) (h g) ∙ sym (among_times g ys))

marks_from_past : (k i g : ℕ) (gs : List ℕ) → g < i → marks_from k i (g ∷ gs) ≡ marks_from k i gs
marks_from_past k i g gs h = marks_from_same k i (g ∷ gs) gs (λ x l m. grind (arith, nat_tests))

marks_from_cons : (k i j : ℕ) (gs : List ℕ) → marks_from k i ((i + j) ∷ gs) ≡ ListN.set (marks_from k i gs) j true
marks_from_cons zero i j gs = refl
marks_from_cons (suc k) i zero gs =
    cons (grind (arith, nat_tests)) (marks_from_past k (suc i) (i + 0) gs (omega arith))
marks_from_cons (suc k) i (suc j) gs =
    let e : i + suc j ≡ suc i + j = omega arith in
    cons (grind (arith, nat_tests)) (ap (λ (x : ℕ). marks_from k (suc i) (x ∷ gs)) e ∙ marks_from_cons k (suc i) j gs)

-- one more flow in a list is one more flow in its set
pub marks_cons : (g : ℕ) (gs : List ℕ) → marks (g ∷ gs) ≡ put (marks gs) g true
unfolding marks
marks_cons zero gs = marks_from_past 20 1 0 gs (omega arith)
marks_cons (suc i) gs =
    let e : suc i ≡ 1 + i = omega arith in
    ap (λ (x : ℕ). marks_from 20 1 (x ∷ gs)) e ∙ marks_from_cons 20 1 i gs

-- how often a flow stands in two lists joined
pub times_append : (g : ℕ) (xs ys : List ℕ) → times g (xs ++ ys) ≡ times g xs + times g ys
times_append g [] ys = omega arith
times_append g (x ∷ xs) ys = let t = times_append g xs ys in omega arith

pub marks_push : (g : ℕ) (gs : List ℕ) → marks (gs ++ g ∷ []) ≡ put (marks gs) g true
marks_push g gs =
    marks_times (gs ++ g ∷ []) (g ∷ gs) (λ x. let t = times_append x gs (g ∷ []) in omega arith) ∙ marks_cons g gs

-- the set of the first flows of a list, with the next one
pub marks_more : (list : List ℕ) (i : ℕ) → i < length list → put (marks (take i list)) (get_or list i 0) true ≡ marks (take (i + 1) list)
marks_more list i h = sym (ap marks (take_more list i 0 h) ∙ marks_push (get_or list i 0) (take i list))

pub marks_with : (set : List Bool) (list : List ℕ) (i g : ℕ) → set ≡ marks (take i list) → g ≡ get_or list i 0 → i < length list → put set g true ≡ marks (take (i + 1) list)
marks_with set list i g e q h = ap₂ (λ (s : List Bool) (x : ℕ). put s x true) e q ∙ marks_more list i h

-- a flow stands among the members of a set once if it is in the set, and else not
members_before : (g i : ℕ) (set : List Bool) → g < i → times g (members_from i set) ≡ 0
members_before g i [] h = refl
members_before g i (true ∷ set) h = let t = members_before g (suc i) set (omega arith) in grind (arith, nat_tests)
members_before g i (false ∷ set) h = members_before g (suc i) set (omega arith)

members_from_times : (g i j : ℕ) (set : List Bool) → g ≡ i + j → times g (members_from i set) ≡ cond (get_or set j false) 1 0
members_from_times g i j [] e = refl
members_from_times g i zero (true ∷ set) e = let t = members_before g (suc i) set (omega arith) in grind (arith, nat_tests)
members_from_times g i zero (false ∷ set) e = members_before g (suc i) set (omega arith)
members_from_times g i (suc j) (true ∷ set) e = let t = members_from_times g (suc i) j set (omega arith) in grind (arith, nat_tests)
members_from_times g i (suc j) (false ∷ set) e = members_from_times g (suc i) j set (omega arith)

pub times_members : (g : ℕ) (set : List Bool) → times g (members set) ≡ cond (has set g) 1 0
times_members zero set = members_before 0 1 set (omega arith)
times_members (suc i) set = members_from_times (suc i) 1 i set (omega arith)

-- the members of a set are the flows in it
pub among_members : (g : ℕ) (set : List Bool) → among g (members set) ≡ has set g
among_members g set = among_times g (members set) ∙ ap (ltb 0) (times_members g set) ∙ one (has set g)
  where
    one : (b : Bool) → ltb 0 (cond b 1 0) ≡ b
    one true = refl
    one false = refl

-- a set has as many flows as members
pub size_members : (i : ℕ) (set : List Bool) → length (members_from i set) ≡ size set
size_members i [] = refl
size_members i (true ∷ set) = let t = size_members (suc i) set in omega arith
size_members i (false ∷ set) = let t = size_members (suc i) set in omega arith

-- the first member is one of the flows that have a mark
first_from : (i : ℕ) (set : List Bool) (g : ℕ) (gs : List ℕ) → members_from i set ≡ g ∷ gs → (i ≤ g) × (g < i + length set)
first_from i [] g gs e = let z : ◌≡◌ {A = ℕ} 0 1 = cc in absurd (omega arith)
first_from i (true ∷ set) g gs e = let h : g ≡ i = cc in (omega arith, omega arith)
first_from i (false ∷ set) g gs e = let t = first_from (suc i) set g gs e in (omega arith, omega arith)

pub first_range : (set : List Bool) (g : ℕ) (gs : List ℕ) → length set ≡ 20 → members set ≡ g ∷ gs → (1 ≤ g) × (g ≤ 20)
first_range set g gs n e = let t = first_from 1 set g gs e in (omega arith, omega arith)

-- a set has no more flows than marks
pub size_most : (set : List Bool) → size set ≤ length set
size_most [] = omega arith
size_most (true ∷ set) = let t = size_most set in omega arith
size_most (false ∷ set) = let t = size_most set in omega arith

marks_from_members : (set : List Bool) (i : ℕ) (gs : List ℕ) → ((j : ℕ) → among (i + j) gs ≡ get_or set j false) → marks_from (length set) i gs ≡ set
marks_from_members [] i gs h = refl
marks_from_members (mark ∷ set) i gs h =
    cons (ap (λ (x : ℕ). among x gs) (sym (add-zero i)) ∙ h 0)
    (marks_from_members set (suc i) gs (λ j. let e : suc i + j ≡ i + suc j = omega arith in ap (λ (x : ℕ). among x gs) e ∙ h (suc j)))

-- a set is the set of its members
pub marks_members : (set : List Bool) → length set ≡ 20 → marks (members set) ≡ set
unfolding marks
marks_members set e =
    ap (λ (x : ℕ). marks_from x 1 (members set)) (sym e)
    ∙ marks_from_members set 1 (members set) (λ j. let f : 1 + j ≡ suc j = omega arith in ap (λ (x : ℕ). among x (members set)) f ∙ among_members (suc j) set)

-- the k marks from i up, each taken by its number
abbrev pub by_number : {X : Type 0} → (X → ℕ → X) → X → ℕ → List Bool → ℕ → X
by_number step x i set zero = x
by_number step x i set (suc k) = cond (get_or set k false) (step (by_number step x i set k) (i + k)) (by_number step x i set k)

by_number_cons : {X : Type 0} (step : X → ℕ → X) (x : X) (i : ℕ) (mark : Bool) (set : List Bool) (k : ℕ) → by_number step x i (mark ∷ set) (suc k) ≡ by_number step (cond mark (step x i) x) (suc i) set k
by_number_cons step x i mark set zero = ap (λ (n : ℕ). cond mark (step x n) x) (add-zero i)
by_number_cons step x i mark set (suc k) =
    let e : i + suc k ≡ suc i + k = omega arith in
    let h = by_number_cons step x i mark set k in
    cc

-- going through the members of a set is going through the numbers, each with a test
pub fold_members : {X : Type 0} (step : X → ℕ → X) (x : X) (i : ℕ) (set : List Bool) → fold step x (members_from i set) ≡ by_number step x i set (length set)
fold_members step x i [] = refl
fold_members step x i (true ∷ set) = fold_members step (step x i) (suc i) set ∙ sym (by_number_cons step x i true set (length set))
fold_members step x i (false ∷ set) = fold_members step x (suc i) set ∙ sym (by_number_cons step x i false set (length set))
