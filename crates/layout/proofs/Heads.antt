-- The fault of a field's head, test by test. Assumes nothing.
use Rattle.std.proofs.Common.{◌≡◌, ℕ, suc, ◌+◌, ◌*◌, ◌/◌, ◌%◌, ◌≤◌, true, false, List, [], ◌∷◌, ◌++◌, length, get_or, Ok, Err, Result, sym, refl, ap, ◌∙◌, arith}
use Rattle.std.proofs.lemmas.Bool.{le-ltb, eq-eqb, ne_eqb}
use Rattle.chip.specs.declared.refusal.Refusal.{Refusal}
use Rattle.chip.specs.declared.refusal.Refusal.TheVariants as refusal
use Rattle.layout.specs.declared.entry.Stage.{Stage}
use Rattle.layout.specs.declared.entry.Stage.TheVariants.{Rule, FirstFlow, Flows, Pairs, Done}
use Rattle.layout.specs.declared.entry.Tag.{Tag}
use Rattle.layout.specs.declared.entry.Tag.TheVariants as tag
use Rattle.layout.specs.declared.fault.Fault.{Fault}
use Rattle.layout.specs.Tags.{tag_number, Decodes}
use Rattle.layout.specs.Progress.{placed}
use Rattle.layout.specs.Layout.{be16}
use Rattle.layout.specs.Faults.{allows, length_for, told_length, open_fault}

-- a sound head
pub fine : (stage : Stage) (rest tail : List ℕ) (tag n : ℕ) → rest ≡ tag ∷ be16 n ++ tail → allows stage tag ≡ true → n ≡ length_for tag → n ≤ length tail → open_fault stage rest ≡ 0
fine stage rest tail tag n e a f h =
    let told : told_length rest ≡ n = ap told_length e ∙ (let d : n / 256 * 256 + n % 256 ≡ n = omega arith in d) in
    let long : length rest ≡ 3 + length tail = ap length e ∙ (let d : suc (suc (suc (length tail))) ≡ 3 + length tail = omega arith in d) in
    let first : get_or rest 0 0 ≡ tag = ap (λ (bs : List ℕ). get_or bs 0 0) e in
    rw (le-ltb (length rest) 3 (omega (arith, long)), first, a, eq-eqb (told_length rest) (length_for tag) (told ∙ f), le-ltb (length rest) (3 + told_length rest) (omega (arith, long, told)))

-- a number that is no tag may not come
no_tag : (stage : Stage) (n : ℕ) → ((tag : Tag) → tag_number tag ≡ n → ⊥) → allows stage n ≡ false
no_tag Rule n none = ne_eqb n 1 (λ e. none tag.Rule (sym e))
no_tag FirstFlow n none = ne_eqb n 2 (λ e. none tag.Flow (sym e))
no_tag Flows n none = rw (ne_eqb n 2 (λ e. none tag.Flow (sym e)), ne_eqb n 3 (λ e. none tag.Reserve (sym e)), ne_eqb n 4 (λ e. none tag.Pair (sym e)), ne_eqb n 5 (λ e. none tag.End (sym e)))
no_tag Pairs n none = rw (ne_eqb n 4 (λ e. none tag.Pair (sym e)), ne_eqb n 5 (λ e. none tag.End (sym e)))
no_tag Done n none = refl

-- a first byte that is no tag
pub no_tag_first : (stage : Stage) (rest first after : List ℕ) → rest ≡ first ++ after → length first ≡ 1 → 3 ≤ length rest → ((tag : Tag) → tag_number tag ≡ get_or first 0 0 → ⊥) → open_fault stage rest ≡ 2
no_tag_first stage rest [] after e one long none = absurd (omega arith)
no_tag_first stage rest (n ∷ more) after e one long none =
    let head : get_or rest 0 0 ≡ n = ap (λ (bs : List ℕ). get_or bs 0 0) e in
    rw (le-ltb (length rest) 3 long, head, no_tag stage n none)

-- where a number is refused at a byte, it is no tag
pub unnamed : (n byte : ℕ) (r : Result Tag Refusal) (f : Fault) → Decodes n r → placed byte r ≡ Err f → (f ≡ record { refusal = refusal.Tag; byte = byte }) × ((tag : Tag) → tag_number tag ≡ n → ⊥)
unnamed n byte (Ok t) f d e = let z : ◌≡◌ {A = ℕ} 0 1 = cc in absurd (omega arith)
unnamed n byte (Err r) f d e =
    let g : f ≡ record { refusal = r; byte = byte } = cc in
    (g ∙ ap (λ (x : Refusal). record { refusal = x; byte = byte }) d.0, d.1)
