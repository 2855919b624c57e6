-- Fields laid out one after another. Assumes nothing.
use Rattle.std.proofs.Common.{◌≡◌, ℕ, ◌+◌, ◌*◌, ◌<◌, ◌≤◌, List, [], ◌∷◌, ◌++◌, length, get_or, take, Some, None, Option, sym, refl, ap, ◌∙◌, arith}
use Rattle.std.specs.List.{flat_map}
use Rattle.job.specs.declared.job.Job.{Job}
use Rattle.job.specs.Jobs.{contents}
use Rattle.layout.specs.Layout.{flow_bytes, pair_bytes, reserve_bytes}
use Rattle.std.proofs.lemmas.List.Folds.{length-flat_map-take}
use Rattle.std.proofs.lemmas.List.{length-append, flat_map_more, take_more}

-- one more entry behind those before it
pub laid_more : {X : Type 0} (f : X → List ℕ) (xs : List X) (i : ℕ) (d : X) (start so_far after : List ℕ) → i < length xs →
    so_far ≡ start ++ flat_map f (take i xs) → after ≡ so_far ++ f (get_or xs i d) → after ≡ start ++ flat_map f (take (i + 1) xs)
laid_more f xs i d start so_far after h inv put =
    put ∙ ap (λ bs. bs ++ f (get_or xs i d)) inv ∙ flat_map_more f start (take i xs) (get_or xs i d) ∙ ap (λ ys. start ++ flat_map f ys) (sym (take_more xs i d h))

-- there is room for one more
pub room_for : {X : Type 0} (f : X → List ℕ) (xs : List X) (i : ℕ) (d : X) (start so_far : List ℕ) (n : ℕ) → i < length xs →
    so_far ≡ start ++ flat_map f (take i xs) → length start + length (flat_map f xs) ≤ n → length so_far + length (f (get_or xs i d)) ≤ n
room_for f xs i d start so_far n h inv room = omega (arith, length-flat_map-take f xs i d h, ap length inv, length-append start (flat_map f (take i xs)))

-- bytes put last make a list longer by as many
pub longer : (a b c : List ℕ) → a ≡ b ++ c → length a ≡ length b + length c
longer a b c e = ap length e ∙ length-append b c

-- entries of k bytes each
pub all_long : {X : Type 0} (f : X → List ℕ) (k : ℕ) → ((x : X) → length (f x) ≡ k) → (xs : List X) → length (flat_map f xs) ≡ k * length xs
all_long f k each [] = omega arith
all_long f k each (x ∷ xs) = let one = each x in let more = all_long f k each xs in let joined = length-append (f x) (flat_map f xs) in grind (arith, one, more, joined)

-- a job has at most 20 flows and 16 pairs, so their bytes are few
pub flows_fit : (j : Job) → length (flat_map flow_bytes (contents j).flows) ≤ 500
flows_fit j = omega (arith, all_long flow_bytes 25 (λ p. refl) (contents j).flows, j.sheet.few)

-- the planner cites this bound
pub few_pairs : (j : Job) → length (contents j).pairs ≤ 16
few_pairs j = j.few

pub pairs_fit : (j : Job) → length (flat_map pair_bytes (contents j).pairs) ≤ 112
pairs_fit j = omega (arith, all_long pair_bytes 7 (λ q. refl) (contents j).pairs, j.few)

pub reserve_fits : (o : Option ℕ) → length (reserve_bytes o) ≤ 7
reserve_fits None = omega arith
reserve_fits (Some ticks) = omega arith
