-- When two lists of links meet, and so what sharing is. Assumes nothing.
use Rattle.std.proofs.Common.{◌≡◌, ℕ, zero, suc, Bool, true, false, ◌&&◌, eqb, List, [], ◌∷◌, get_or, ◌∙◌, sym, refl, subst, ⊎_elim}
use Rattle.std.specs.List.{list_any, zip}
use Rattle.std.proofs.lemmas.Bool.{false≢true, or_cases, or_left, or_right, and_parts, and_from, eqb-true, eq-eqb}
use Rattle.chip.specs.declared.parameters.FlowParameters.{FlowParameters}
use Rattle.chip.specs.declared.port.Port.TheVariants.{In}
use Rattle.chip.specs.Routes.{link, links, among, meet, shares, Sharing}

-- some link is in both lists
abbrev pub Common : List ℕ → List ℕ → Type 0
Common ks ls = (k : ℕ) × (among k ks ≡ true) × (among k ls ≡ true)

meets : (ks ls : List ℕ) → Common ks ls → meet ks ls ≡ true
meets [] ls c = c.1
meets (l ∷ ks) ls c =
    ⊎_elim
    (λ here. or_left (among l ls) (meet ks ls) (subst (λ j. among j ls ≡ true) (eqb-true c.0 l here) c.2))
    (λ later. or_right (among l ls) (meet ks ls) (meets ks ls (c.0, later, c.2)))
    (or_cases (eqb c.0 l) (among c.0 ks) c.1)

common : (ks ls : List ℕ) → meet ks ls ≡ true → Common ks ls
common [] ls e = absurd (false≢true e)
common (k ∷ ks) ls e =
    ⊎_elim
    (λ here. (k, or_left (eqb k k) (among k ks) (eq-eqb k k refl), here))
    (λ there. let c = common ks ls there in (c.0, or_right (eqb c.0 k) (among c.0 ks) c.1, c.2))
    (or_cases (among k ls) (meet ks ls) e)

-- two tests that follow from each other agree
agree : (a b : Bool) → (a ≡ true → b ≡ true) → (b ≡ true → a ≡ true) → a ≡ b
agree true b f g = sym (f refl)
agree false true f g = g refl
agree false false f g = refl

pub shares_some : (p q : FlowParameters) → Common (links p) (links q) → shares p q ≡ true
unfolding shares
shares_some p q c = meets (links p) (links q) c

pub shares_common : (p q : FlowParameters) → shares p q ≡ true → Common (links p) (links q)
unfolding shares
shares_common p q e = common (links p) (links q) e

-- two tables of marks have one in common exactly where the flows share
some_both : (xs ys : List Bool) (k : ℕ) → get_or xs k false ≡ true → get_or ys k false ≡ true → list_any (λ m. m.0 && m.1) (zip xs ys) ≡ true
some_both [] ys k a b = absurd (false≢true a)
some_both (x ∷ xs) [] k a b = absurd (false≢true b)
some_both (x ∷ xs) (y ∷ ys) zero a b = or_left (x && y) _ (and_from x y a b)
some_both (x ∷ xs) (y ∷ ys) (suc k) a b = or_right (x && y) _ (some_both xs ys k a b)

both_some : (xs ys : List Bool) → list_any (λ m. m.0 && m.1) (zip xs ys) ≡ true → (k : ℕ) × (get_or xs k false ≡ true) × (get_or ys k false ≡ true)
both_some [] ys e = absurd (false≢true e)
both_some (x ∷ xs) [] e = absurd (false≢true e)
both_some (x ∷ xs) (y ∷ ys) e =
    ⊎_elim
    (λ here. let parts = and_parts x y here in (zero, parts.0, parts.1))
    (λ later. let m = both_some xs ys later in (suc m.0, m.1, m.2))
    (or_cases (x && y) (list_any (λ m. m.0 && m.1) (zip xs ys)) e)

pub tables_meet : (p q : FlowParameters) (xs ys : List Bool) → ((k : ℕ) → get_or xs k false ≡ among k (links p)) → ((k : ℕ) → get_or ys k false ≡ among k (links q)) → list_any (λ m. m.0 && m.1) (zip xs ys) ≡ shares p q
tables_meet p q xs ys mine theirs =
    agree _ _
    (λ e. let m = both_some xs ys e in shares_some p q (m.0, sym (mine m.0) ∙ m.1, sym (theirs m.0) ∙ m.2))
    (λ e. let c = shares_common p q e in some_both xs ys c.0 (mine c.0 ∙ c.1) (theirs c.0 ∙ c.2))

turned : (p q : FlowParameters) → shares p q ≡ true → shares q p ≡ true
turned p q e = let c = shares_common p q e in shares_some q p (c.0, c.2, c.1)

starts : (p : FlowParameters) → among (link In p.source) (links p) ≡ true
unfolding links
starts p = or_left _ _ (eq-eqb (link In p.source) (link In p.source) refl)

pub sharing : Sharing
sharing = record {
  some_link = λ p q. (shares_common p q, shares_some p q);
  symmetric = λ p q. agree _ _ (turned p q) (turned q p);
  itself = λ p. shares_some p p (link In p.source, starts p, starts p);
}
