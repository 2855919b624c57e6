-- The bytes of a plan: fields of a tag, a length in two bytes and a value, with numbers big-endian. Assumes nothing.
--   level_bytes, tail_bytes   the field of a level; those of the placings and of the end
--   plan                      the plan of an ended search
--   plan_reply, plan_after    the reply to having it written, and the buffer after it
--   same_reply                the reply to whether two searches have equal plans
use Rattle.std.specs.Prelude.{ℕ, zero, suc, ◌/◌, ◌%◌, Bool, true, false, cond, ◌&&◌, List, [], ◌∷◌, ◌++◌, length, take, drop, Ok, Err, Result, ◌==◌, nat_le, slice_index}
use Rattle.std.specs.Option.{option_eq}
use Rattle.std.specs.Result.{result_ok, result_unwrap_or}
use Rattle.chip.specs.declared.refusal.Refusal.{Refusal}
use Rattle.chip.specs.declared.refusal.Refusal.TheVariants.{NoOutcome, ShortBuffer}
use Rattle.rule.specs.Meaning.{Meaning}
use Rattle.rule.specs.Questions.{asked_label}
use Rattle.search.specs.Candidates.{time_of}
use Rattle.walk.specs.Walk.{State, going, found, nothing, ended}

-- the field of a level: level, label and bound
abbrev pub level_bytes : ℕ → ℕ → ℕ → List ℕ
level_bytes level label bound =
    0x11 ∷ 0 ∷ 7 ∷ level ∷ label / 256 % 256 ∷ label % 256 ∷ bound / 16777216 % 256 ∷ bound / 65536 % 256 ∷ bound / 256 % 256 ∷ bound % 256 ∷ []

-- the fields of the count of placings and of the end
abbrev pub tail_bytes : ℕ → List ℕ
tail_bytes count =
    0x13 ∷ 0 ∷ 8 ∷ count / 72057594037927936 % 256 ∷ count / 281474976710656 % 256 ∷ count / 1099511627776 % 256 ∷ count / 4294967296 % 256 ∷ count / 16777216 % 256 ∷ count / 65536 % 256 ∷ count / 256 % 256 ∷ count % 256 ∷ 0x05 ∷ 0 ∷ 0 ∷ []

-- the field that stands for no order
abbrev pub no_order_bytes : List ℕ
no_order_bytes = 0x12 ∷ 0 ∷ 0 ∷ []

-- the fields of the first k levels of an order
abbrev pub levels_bytes : Meaning → List ℕ → ℕ → List ℕ
levels_bytes m order zero = []
levels_bytes m order (suc k) =
    levels_bytes m order k ++ level_bytes (suc k) (m.label (slice_index order k)) (time_of (m.bound (slice_index order k) (take k order)))

-- the plan of an ended search; nothing before
abbrev pub plan : Meaning → State → List ℕ
plan m (going count sure untried below) = []
plan m (found count order) = levels_bytes m order (length order) ++ tail_bytes count
plan m (nothing count) = no_order_bytes ++ tail_bytes count

-- bytes fit a buffer, or it is shorter; they stand at its front then
abbrev pub fit_reply : List ℕ → ℕ → Result ℕ Refusal
fit_reply bytes room = cond (nat_le (length bytes) room) (Ok (length bytes)) (Err ShortBuffer)

abbrev pub fit_after : List ℕ → List ℕ → List ℕ
fit_after bytes buffer = cond (nat_le (length bytes) (length buffer)) (bytes ++ drop (length bytes) buffer) buffer

-- the plan is refused before the end, and then a buffer shorter than it
abbrev pub plan_reply : Meaning → State → ℕ → Result ℕ Refusal
plan_reply m s room = cond (ended s) (fit_reply (plan m s) room) (Err NoOutcome)

-- a plan that is not refused stands at the front of the buffer
abbrev pub plan_after : Meaning → State → List ℕ → List ℕ
plan_after m s buffer = cond (ended s) (fit_after (plan m s) buffer) buffer

-- the fields of the first k levels of an order with its bounds, as the rule tells its labels
abbrev pub levels_told : Meaning → List ℕ → List ℕ → ℕ → List ℕ
levels_told m order bounds zero = []
levels_told m order bounds (suc k) =
    levels_told m order bounds k ++ level_bytes (suc k) (result_unwrap_or (asked_label m (slice_index order k)) 0) (slice_index bounds k)

-- whether two replies tell the same label, or neither tells one
abbrev pub same_label : Result ℕ Refusal → Result ℕ Refusal → Bool
same_label a b = option_eq (λ x y. x == y) (result_ok a) (result_ok b)

-- whether the flows of two orders have the same labels, level by level
abbrev pub same_labels : Meaning → List ℕ → Meaning → List ℕ → Bool
same_labels m [] o [] = true
same_labels m [] o (g ∷ gs) = false
same_labels m (f ∷ fs) o [] = false
same_labels m (f ∷ fs) o (g ∷ gs) = same_label (asked_label m f) (asked_label o g) && same_labels m fs o gs

-- equality is refused unless both searches have ended; equal plans have no order both, or the same labels by level
abbrev pub same_reply : Meaning → State → Meaning → State → Result Bool Refusal
same_reply m (going c s u b) o t = Err NoOutcome
same_reply m (found c order) o (going d s u b) = Err NoOutcome
same_reply m (found c order) o (found d other) = Ok (same_labels m order o other)
same_reply m (found c order) o (nothing d) = Ok false
same_reply m (nothing c) o (going d s u b) = Err NoOutcome
same_reply m (nothing c) o (found d other) = Ok false
same_reply m (nothing c) o (nothing d) = Ok true
