-- Reading goes one way: an input has one answer at most. Assumes nothing.
use Rattle.std.proofs.Common.{◌≡◌, ℕ, ◌+◌, ◌≤◌, [], length, sym, refl, ap, ◌∙◌, subst, arith}
use Rattle.layout.specs.declared.entry.Entry.{Entry}
use Rattle.layout.specs.Faults.{with_entry, value_fault}
use Rattle.layout.specs.Layout.{entry_bytes}
use Rattle.layout.specs.Reading.{State, Sound, Reads, here, next, Faulty, in_head, in_value}
use Rattle.layout.proofs.Codes.{same_field, same_rest}

same_state : (s t : State) → s.part ≡ t.part → s.at ≡ t.at → s.rest ≡ t.rest → s ≡ t
same_state s t p a r = λ i. record { part = p i; at = a i; rest = r i }

-- a state leads to one state
one_way : (s t u : State) (e f : Entry) → Sound s e t → Sound s f u → t ≡ u
one_way s t u e f a b =
    let bytes = sym a.bytes ∙ b.bytes in
    let same = same_field e f t.rest u.rest bytes in
    same_state t u
    (a.grown ∙ ap (with_entry s.part) same ∙ sym b.grown)
    (a.moved ∙ ap (λ (x : Entry). s.at + length (entry_bytes x)) same ∙ sym b.moved)
    (same_rest e f t.rest u.rest bytes)

-- no field leads further
abbrev pub Stuck : State → Type 0
Stuck s = (e : Entry) (t : State) → Sound s e t → ⊥

pub only_one : {s t u : State} → Reads s t → Reads s u → Stuck t → Stuck u → t ≡ u
only_one here here a b = refl
only_one here (next e t sound rest) a b = absurd (a e t sound)
only_one (next e t sound rest) here a b = absurd (b e t sound)
only_one {s} {t} {u} (next e x sound rest) (next f y other more) a b =
    only_one rest (subst (λ (z : State). Reads z u) (sym (one_way s x y e f sound other)) more) a b

-- at a fault nothing leads further, and it has one number
pub stuck_at_fault : {s : State} {n : ℕ} → Faulty s n → 1 ≤ n → Stuck s
stuck_at_fault {s} {n} (in_head h) real e t sound = let z = sym sound.head ∙ h in absurd (omega arith)
stuck_at_fault {s} {n} (in_value f rest bytes head v) real e t sound =
    let same = same_field e f t.rest rest (sym sound.bytes ∙ bytes) in
    let z = sym sound.value ∙ ap (value_fault s.part) same ∙ v in
    absurd (omega arith)

pub one_fault : {s : State} {n m : ℕ} → Faulty s n → Faulty s m → 1 ≤ n → 1 ≤ m → n ≡ m
one_fault (in_head a) (in_head b) p q = sym a ∙ b
one_fault (in_head a) (in_value e rest bytes head v) p q = let z = sym a ∙ head in absurd (omega arith)
one_fault (in_value e rest bytes head v) (in_head b) p q = let z = sym b ∙ head in absurd (omega arith)
one_fault {s} (in_value e rest bytes head v) (in_value f more other thead w) p q =
    sym v ∙ ap (value_fault s.part) (same_field e f rest more (sym bytes ∙ other)) ∙ w

-- where nothing is left, nothing leads further
pub stuck_at_end : {s : State} → s.rest ≡ [] → Stuck s
stuck_at_end {s} h e t sound = let z : ◌≡◌ {A = ℕ} 0 1 = cc (sym h ∙ sound.bytes) in absurd (omega arith)
