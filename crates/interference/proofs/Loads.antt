-- The load of interferers: it grows with the time, with the offsets and with the flows that count. Assumes nothing.
--   load_grows       more time, no less load
--   load_counted     the load of counted flows is a sum over the list
--   sooner, same     a smaller load has a least solution no later; equal loads have the same
use Rattle.std.proofs.Common.{◌≡◌, ℕ, zero, suc, ◌+◌, ◌-◌, ◌*◌, ◌/◌, ◌<◌, ◌≤◌, Bool, true, false, cond, List, [], ◌∷◌, reverse, Some, filter, sym, refl, ap, ◌∙◌, le_trans, mul-le-mul_right, mul-le-mul_left, le-div_iff_mul-le, div-mul-le_self, arith}
use mathlib.Core.Path.{fun_ext}
use native.Mathlib.Nat.{div-zero}
use Rattle.chip.specs.declared.parameters.FlowParameters.{FlowParameters}
use Rattle.std.proofs.lemmas.Bool.{false≢true}
use Rattle.rule.specs.Lists.{distinct, marks, Struck}
use Rattle.rule.specs.Meaning.{NoLater, InTime}
use Rattle.rule.specs.FlowSets.{members}
use Rattle.interference.specs.Solution.{Interferer, up, taken, load, demand, first_fixed, least, Least}
use Rattle.interference.specs.Interference.{flow, interferer, interferers, counted, settled}
use Rattle.interference.proofs.Fixed.{least_is, fixed_below, found, no_later, timely}
use Rattle.interference.specs.Tables.{total}
use Rattle.interference.proofs.Sums.{total_le, total_members, total_reverse, total_struck}

-- division keeps order
div_grows : (a b t : ℕ) → a ≤ b → a / t ≤ b / t
div_grows a b zero h = omega (arith, div-zero a, div-zero b)
div_grows a b (suc t) h = let some : 0 < suc t = omega arith in (le-div_iff_mul-le some).1 (le_trans (div-mul-le_self a (suc t)) h)

-- an interferer whose latency is within its period takes no more than its reach and one period
pub part_small : (n t c : ℕ) → c ≤ t → up n t * c ≤ n + (t - 1)
part_small n t c h = le_trans (mul-le-mul_left (up n t) h) (div-mul-le_self (n + (t - 1)) t)

-- an interferer that comes later in a longer time takes no less
pub taken_grows : (x y : Interferer) (s t : ℕ) → x.period ≡ y.period → x.latency ≡ y.latency → s + x.offset ≤ t + y.offset → taken x s ≤ taken y t
taken_grows x y s t period latency later =
    rw (period, latency) (mul-le-mul_right y.latency (div_grows (s + x.offset + (y.period - 1)) (t + y.offset + (y.period - 1)) y.period (omega arith)))

pub load_grows : (xs : List Interferer) (s t : ℕ) → s ≤ t → load xs s ≤ load xs t
load_grows [] s t h = omega arith
load_grows (x ∷ xs) s t h = omega (arith, taken_grows x x s t refl refl (omega arith), load_grows xs s t h)

-- a smaller load has a least solution, no later
pub sooner : (base limit r : ℕ) (xs ys : List Interferer) → ((t : ℕ) → load xs t ≤ load ys t) → least base limit ys ≡ Some r → NoLater (least base limit xs) r
sooner base limit r xs ys less e =
    let late : Least (demand base ys) limit (Some r) = rw e at (least_is base limit ys) in
    let early = fixed_below (demand base xs) (λ s t h. omega (arith, load_grows xs s t h)) r (omega (arith, less r, late.solves)) in
    no_later (least base limit xs) early.0 r early.1 (found (demand base xs) limit early.0 (least base limit xs) (least_is base limit xs) (omega (arith, early.1, late.within)) early.2)

-- equal loads have the same least solution
pub same : (base limit : ℕ) (xs ys : List Interferer) → ((t : ℕ) → load xs t ≡ load ys t) → least base limit xs ≡ least base limit ys
unfolding least
same base limit xs ys e = ap (λ g. first_fixed g (suc limit) 0) (fun_ext (λ t. ap (λ n. base + n) (e t)))

-- what flow j takes within r ticks, if it counts
abbrev pub share_of : List FlowParameters → (ℕ → Bool) → (ℕ → ℕ) → ℕ → ℕ → ℕ
share_of fs counts extra r j = cond (counts j) (taken (interferer fs j (extra j)) r) 0

-- one flow more, if it counts
pub load_front : (c : Bool) (x : Interferer) (xs : List Interferer) (r : ℕ) → load (cond c (x ∷ xs) xs) r ≡ cond c (taken x r) 0 + load xs r
load_front true x xs r = refl
load_front false x xs r = omega arith

pub load_counted_cons : (fs : List FlowParameters) (counts : ℕ → Bool) (extra : ℕ → ℕ) (r j : ℕ) (js : List ℕ) → load (counted fs counts extra (j ∷ js)) r ≡ share_of fs counts extra r j + load (counted fs counts extra js) r
load_counted_cons fs counts extra r j js = elim (counts j) as (λ b. load (interferers fs extra (cond b (j ∷ filter counts js) (filter counts js))) r ≡ cond b (taken (interferer fs j (extra j)) r) 0 + load (counted fs counts extra js) r) [
  | true ↦ refl
  | false ↦ omega arith
]

pub load_counted : (fs : List FlowParameters) (counts : ℕ → Bool) (extra : ℕ → ℕ) (r : ℕ) (js : List ℕ) → load (counted fs counts extra js) r ≡ total (share_of fs counts extra r) js
load_counted fs counts extra r [] = refl
load_counted fs counts extra r (j ∷ js) = load_counted_cons fs counts extra r j js ∙ ap (λ n. share_of fs counts extra r j + n) (load_counted fs counts extra r js)

-- the same in another order, or with flows struck
module _ (fs : List FlowParameters) (counts : ℕ → Bool) (extra : ℕ → ℕ) (r : ℕ) where
  pub load_members : (n : ℕ) (js : List ℕ) → n ≤ 20 → distinct n js ≡ true → load (counted fs counts extra js) r ≡ load (counted fs counts extra (members (marks js))) r
  load_members n js few proper =
      load_counted fs counts extra r js
      ∙ total_members (share_of fs counts extra r) n js few proper
      ∙ sym (load_counted fs counts extra r (members (marks js)))

  pub load_reverse : (js : List ℕ) → load (counted fs counts extra (reverse js)) r ≡ load (counted fs counts extra js) r
  load_reverse js =
      load_counted fs counts extra r (reverse js) ∙ total_reverse (share_of fs counts extra r) js ∙ sym (load_counted fs counts extra r js)

  pub load_struck : {fewer js : List ℕ} → Struck fewer js → load (counted fs counts extra fewer) r ≤ load (counted fs counts extra js) r
  load_struck {fewer} {js} s = omega (arith, load_counted fs counts extra r fewer, load_counted fs counts extra r js, total_struck (share_of fs counts extra r) s)

-- flow j takes no more where it counts less often and comes less late
pub share_grows : (fs : List FlowParameters) (r j : ℕ) (c d : Bool) (m n : ℕ) → (c ≡ true → d ≡ true) → m ≤ n → cond c (taken (interferer fs j m) r) 0 ≤ cond d (taken (interferer fs j n) r) 0
share_grows fs r j true true m n more later = taken_grows (interferer fs j m) (interferer fs j n) r r refl refl (omega arith)
share_grows fs r j true false m n more later = absurd (false≢true (more refl))
share_grows fs r j false d m n more later = omega arith

-- more flows that count, and come later, are no less load
pub load_more : (fs : List FlowParameters) (counts also : ℕ → Bool) (extra later : ℕ → ℕ) → ((j : ℕ) → counts j ≡ true → also j ≡ true) → ((j : ℕ) → extra j ≤ later j) → (r : ℕ) (js : List ℕ) → load (counted fs counts extra js) r ≤ load (counted fs also later js) r
load_more fs counts also extra later more slow r js =
    omega (arith, load_counted fs counts extra r js, load_counted fs also later r js, total_le (share_of fs counts extra r) (share_of fs also later r) (λ j. share_grows fs r j (counts j) (also j) (extra j) (later j) (more j) (slow j)) js)

-- what a flow's solution is under: its own latency and deadline
pub settled_timely : (fs : List FlowParameters) (f : ℕ) (xs : List Interferer) → InTime (settled fs f xs) (flow fs f).deadline
settled_timely fs f xs = timely (demand (flow fs f).latency xs) (flow fs f).deadline (settled fs f xs) (least_is (flow fs f).latency (flow fs f).deadline xs)

pub settled_sooner : (fs : List FlowParameters) (f r : ℕ) (xs ys : List Interferer) → ((t : ℕ) → load xs t ≤ load ys t) → settled fs f ys ≡ Some r → NoLater (settled fs f xs) r
settled_sooner fs f r xs ys less e = sooner (flow fs f).latency (flow fs f).deadline r xs ys less e

pub settled_same : (fs : List FlowParameters) (f : ℕ) (xs ys : List Interferer) → ((t : ℕ) → load xs t ≡ load ys t) → settled fs f xs ≡ settled fs f ys
settled_same fs f xs ys e = same (flow fs f).latency (flow fs f).deadline xs ys e
