-- Lists of flows without repeats: their counts, their parts and their length. Assumes nothing.
--   any_among        whether a flow stands in a list, as the library tells it
--   left_to_test     a list that is tested flow by flow, from its front
--   distinct_times   a list without repeats holds each flow at most once, and nothing else; times_distinct the other way
--   proper_taken     each flow of such a list may be asked under those before it
--   distinct_short   such a list has at most 20 entries
use Rattle.std.proofs.Common.{◌≡◌, ℕ, zero, suc, ◌<◌, ◌≤◌, Bool, true, false, cond, not, ◌&&◌, ◌||◌, eqb, leb, ◌⊎◌, List, [], ◌∷◌, ◌++◌, length, get_or, take, drop, set, sym, refl, ap, ◌∙◌, inl, inr, ⊎_elim, arith}
use lib.ListN as ListN
use Rattle.std.specs.List.{list_any}
use Rattle.std.proofs.lemmas.Bool.Decides.{nat_tests}
use Rattle.std.proofs.lemmas.Bool.{cases_eq, cases_lt, cases_Bool, both_ways, and_parts, not-true, leb-true}
use Rattle.std.proofs.lemmas.List.{get_or-set_same, get_or-set_other, get_or_past, take-append-drop, drop_more}
use Rattle.rule.specs.Lists.{is_flow, among, times, distinct, proper, marks, has}
use Rattle.rule.specs.FlowSets.{put, size}
use Rattle.rule.proofs.Members.{among_times, times_append, marks_length, marks_cons, has_marks}

-- a list is searched for g as any list is for an element
pub any_among : (g : ℕ) (gs : List ℕ) → list_any (λ h. eqb h g) gs ≡ among g gs
any_among g [] = refl
any_among g (h ∷ hs) = let t = any_among g hs in grind (arith, nat_tests)

-- no flow of a list is among those seen
abbrev pub apart : List ℕ → List ℕ → Bool
apart seen [] = true
apart seen (g ∷ gs) = not (among g seen) && apart seen gs

pub among_push : (x g : ℕ) (gs : List ℕ) → among x (gs ++ g ∷ []) ≡ (among x gs || eqb x g)
among_push x g [] = grind (arith, nat_tests)
among_push x g (h ∷ gs) = let t = among_push x g gs in grind (arith, nat_tests)

apart_push : (seen : List ℕ) (g : ℕ) (gs : List ℕ) → apart (seen ++ g ∷ []) gs ≡ (apart seen gs && not (among g gs))
apart_push seen g [] = refl
apart_push seen g (h ∷ gs) =
    let t = apart_push seen g gs in
    let u = among_push h g seen in
    grind (arith, nat_tests)

pub apart_none : (gs : List ℕ) → apart [] gs ≡ true
apart_none [] = refl
apart_none (g ∷ gs) = apart_none gs

-- what is left to test of a list of which the first flows were seen, and are without repeats
abbrev pub left_to_test : ℕ → List ℕ → List ℕ → Bool
left_to_test n seen gs = distinct n gs && apart seen gs

pub test_start : (n : ℕ) (gs : List ℕ) → distinct n gs ≡ left_to_test n [] gs
test_start n gs = let e = apart_none gs in grind (arith, nat_tests)

-- one more flow that is new
pub test_new : (n : ℕ) (seen : List ℕ) (g : ℕ) (gs : List ℕ) → is_flow n g ≡ true → among g seen ≡ false → left_to_test n seen (g ∷ gs) ≡ left_to_test n (seen ++ g ∷ []) gs
test_new n seen g gs p q = let t = apart_push seen g gs in grind (arith, nat_tests)

-- a number that is no flow, or was seen
pub test_fails : (n : ℕ) (seen : List ℕ) (g : ℕ) (gs : List ℕ) → (is_flow n g ≡ false) ⊎ (among g seen ≡ true) → left_to_test n seen (g ∷ gs) ≡ false
test_fails n seen g gs (inl p) = grind (arith, nat_tests)
test_fails n seen g gs (inr p) = grind (arith, nat_tests)

-- a table of the numbers that stand in a list
abbrev pub Seen : List Bool → List ℕ → Type 0
Seen seen list = (g : ℕ) → g < 256 → get_or seen g false ≡ among g list

-- one more number is marked in the table as it joins the list
pub seen_step : (seen : List Bool) (list : List ℕ) (x : ℕ) → x < length seen → Seen seen list → Seen (set seen x true) (list ++ x ∷ [])
seen_step seen list x h s g l = ⊎_elim same other (cases_eq g x) ∙ sym (among_push g x list)
  where
    same : g ≡ x → get_or (set seen x true) g false ≡ (among g list || eqb g x)
    same e = rw e (get_or-set_same seen x true false h ∙ grind (arith, nat_tests))

    other : (g ≡ x → ⊥) → get_or (set seen x true) g false ≡ (among g list || eqb g x)
    other ne = get_or-set_other seen x g true false ne ∙ s g l ∙ grind (arith, nat_tests)

-- the first flow of a list without repeats, and the others
pub distinct_parts : (n g : ℕ) (gs : List ℕ) → distinct n (g ∷ gs) ≡ true → (is_flow n g ≡ true) × (among g gs ≡ false) × (distinct n gs ≡ true)
distinct_parts n g gs d =
    let p = and_parts (is_flow n g && not (among g gs)) (distinct n gs) d in
    let q = and_parts (is_flow n g) (not (among g gs)) p.0 in
    (q.0, not-true (among g gs) q.1, p.1)

-- a flow of 1 to n, as numbers
pub flow_range : (n g : ℕ) → is_flow n g ≡ true → (1 ≤ g) × (g ≤ n)
flow_range n g e = let p = and_parts (leb 1 g) (leb g n) e in (leb-true 1 g p.0, leb-true g n p.1)

-- a list without repeats holds each flow at most once, and nothing else
pub distinct_times : (n : ℕ) (gs : List ℕ) → distinct n gs ≡ true → (g : ℕ) → times g gs ≤ cond (is_flow n g) 1 0
distinct_times n [] d g = omega arith
distinct_times n (h ∷ hs) d g =
    let p = distinct_parts n h hs d in
    let t = distinct_times n hs p.2 g in
    let u = among_times h hs in
    ⊎_elim (λ (e : g ≡ h). rw e (grind (arith, nat_tests))) (λ (ne : g ≡ h → ⊥). grind (arith, nat_tests)) (cases_eq g h)

pub times_distinct : (n : ℕ) (gs : List ℕ) → ((g : ℕ) → times g gs ≤ cond (is_flow n g) 1 0) → distinct n gs ≡ true
times_distinct n [] h = refl
times_distinct n (x ∷ xs) h =
    let t = times_distinct n xs (λ g. let s = h g in omega arith) in
    let u = among_times x xs in
    let v = h x in
    grind (arith, nat_tests)

-- each flow of a list without repeats may be asked under those before it
pub proper_taken : (n : ℕ) (xs : List ℕ) (i : ℕ) → i < length xs → distinct n xs ≡ true → proper n (get_or xs i 0) (take i xs) ≡ true
proper_taken n xs i h d = times_distinct n (get_or xs i 0 ∷ take i xs) each
  where
    each : (g : ℕ) → times g (get_or xs i 0 ∷ take i xs) ≤ cond (is_flow n g) 1 0
    each g =
        let whole = ap (times g) (take-append-drop i xs) in
        let parts = times_append g (take i xs) (drop i xs) in
        let rest = ap (times g) (drop_more xs i 0 h) in
        let all = distinct_times n xs d g in
        omega arith

size_set : (set : List Bool) (i : ℕ) → i < length set → get_or set i false ≡ false → size (ListN.set set i true) ≡ suc (size set)
size_set [] i h e = absurd (omega arith)
size_set (true ∷ set) zero h e = grind (arith, nat_tests)
size_set (false ∷ set) zero h e = omega arith
size_set (true ∷ set) (suc i) h e = let t = size_set set i (omega arith) e in omega arith
size_set (false ∷ set) (suc i) h e = let t = size_set set i (omega arith) e in omega arith

size_put : (set : List Bool) (g : ℕ) → 1 ≤ g → g ≤ length set → has set g ≡ false → size (put set g true) ≡ suc (size set)
size_put set zero p q e = absurd (omega arith)
size_put set (suc i) p q e = size_set set i q e

-- a list without repeats has as many flows as its set
pub distinct_size : (n : ℕ) (gs : List ℕ) → n ≤ 20 → distinct n gs ≡ true → size (marks gs) ≡ length gs
unfolding marks
distinct_size n [] l d = refl
distinct_size n (g ∷ gs) l d =
    let p = distinct_parts n g gs d in
    let r = flow_range n g p.0 in
    let within : g ≤ length (marks gs) = omega (arith, marks_length gs) in
    ap size (marks_cons g gs) ∙ size_put (marks gs) g r.0 within (has_marks g gs r.0 (omega arith) ∙ p.1) ∙ ap suc (distinct_size n gs l p.2)

size_most : (set : List Bool) → size set ≤ length set
size_most [] = omega arith
size_most (true ∷ set) = let t = size_most set in omega arith
size_most (false ∷ set) = let t = size_most set in omega arith

-- a list without repeats has at most 20 entries
pub distinct_short : (n : ℕ) (gs : List ℕ) → n ≤ 20 → distinct n gs ≡ true → length gs ≤ 20
distinct_short n gs l d = omega (arith, distinct_size n gs l d, size_most (marks gs), marks_length gs)

-- a set holds no number outside 1 to 20
pub has_outside : (set : List Bool) (g : ℕ) → length set ≡ 20 → is_flow 20 g ≡ false → has set g ≡ false
has_outside set zero l e = refl
has_outside set (suc i) l e = get_or_past set i false (past (cases_lt i 20))
  where
    past : (i < 20) ⊎ (20 ≤ i) → length set ≤ i
    past (inl h) = absurd (both_ways (is_flow 20 (suc i)) e (grind (arith, nat_tests)))
    past (inr h) = omega arith

-- what stands in a list without repeats is a flow
pub among_flow : (n g : ℕ) (gs : List ℕ) → distinct n gs ≡ true → among g gs ≡ true → is_flow n g ≡ true
among_flow n g gs d a = let t = distinct_times n gs d g in let u = among_times g gs in grind (arith, nat_tests)

-- a list without repeats holds what its set holds
pub has_distinct : (n : ℕ) (gs : List ℕ) → n ≤ 20 → distinct n gs ≡ true → (g : ℕ) → has (marks gs) g ≡ among g gs
has_distinct n gs l d g = ⊎_elim inner outer (cases_Bool (is_flow 20 g))
  where
    inner : is_flow 20 g ≡ true → has (marks gs) g ≡ among g gs
    inner e = let r = flow_range 20 g e in has_marks g gs r.0 r.1

    absent : is_flow 20 g ≡ false → (b : Bool) → among g gs ≡ b → among g gs ≡ false
    absent e false a = a
    absent e true a = let r = flow_range n g (among_flow n g gs d a) in let t = r.0 in let u = r.1 in absurd (both_ways (is_flow 20 g) e (grind (arith, nat_tests)))

    outer : is_flow 20 g ≡ false → has (marks gs) g ≡ among g gs
    outer e = has_outside (marks gs) g (marks_length gs) e ∙ sym (absent e (among g gs) refl)
