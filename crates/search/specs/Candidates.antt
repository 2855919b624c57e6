-- How the candidates of a level are gathered from a rule's replies. Assumes nothing.
--   told_slack     how long before a deadline a reply's answer is
--   Answers        what a question is replied to, whatever its reply
--   time_told      how long before its deadline the answer for a flow under the other free flows is
--   Gathered       the free flows with such an answer, and how long before its deadline each is
--   choice_by, chosen_by      the choice of a set by a table, and nothing from an empty set
use Rattle.std.specs.Prelude.{◌≡◌, ℕ, ◌-◌, ◌^◌, ◌<◌, Bool, true, false, cond, List, is_some, Some, None, Ok, Err, Option, Result, slice_index}
use Rattle.chip.specs.declared.refusal.Refusal.{Refusal}
use Rattle.rule.specs.declared.flow_set.FlowSet.{FlowSet}
use Rattle.rule.specs.FlowSets.{marks_of, put, empty}
use Rattle.rule.specs.Lists.{has}
use Rattle.rule.specs.Meaning.{Meaning}
use Rattle.rule.specs.Questions.{asked_deadline}
use Rattle.search.specs.declared.candidates.Candidates.{Candidates}
use Rattle.walk.specs.Choice.{keep, choice}

-- how long before a deadline a reply's answer is; nothing without an answer
abbrev pub told_slack : Result (Option ℕ) Refusal → Result ℕ Refusal → Option ℕ
told_slack (Ok (Some r)) (Ok last) = Some (last - r)
told_slack (Ok (Some r)) (Err e) = None
told_slack (Ok None) last = None
told_slack (Err e) last = None

-- each reply to a question about a flow and a set is the one that is asked for
abbrev pub Answers : (ℕ → FlowSet → Result (Option ℕ) Refusal → Type 0) → (ℕ → List Bool → Result (Option ℕ) Refusal) → Type 0
Answers Reply asked = (f : ℕ) → f < 2 ^ 8 → (set : FlowSet) (reply : Result (Option ℕ) Refusal) → Reply f set reply → reply ≡ asked f (marks_of set)

-- how long before its deadline the answer that is asked for flow f under the other free flows is
unfoldable pub time_told : Meaning → (ℕ → List Bool → Result (Option ℕ) Refusal) → List Bool → ℕ → Option ℕ
time_told m asked free f = told_slack (asked f (put free f false)) (asked_deadline m f)

-- a time, or 0
abbrev pub time_of : Option ℕ → ℕ
time_of None = 0
time_of (Some t) = t

-- the entry of a table for flow f
abbrev pub entry_of : List ℕ → ℕ → ℕ
entry_of table f = slice_index table (f - 1)

-- the flows of a set for which a time is told, and the times by flow
pub record Gathered (times : ℕ → Option ℕ) (free : List Bool) (r : Candidates) : Type 0 where
  pub kept : marks_of r.set ≡ keep (λ f. is_some (times f)) free
  pub entries : (f : ℕ) → has free f ≡ true → entry_of r.slack f ≡ time_of (times f)

-- the choice of a set by a table
abbrev pub choice_by : List ℕ → List Bool → ℕ
choice_by table set = choice (entry_of table) set

-- the same; nothing from an empty set
abbrev pub chosen_by : List ℕ → List Bool → Option ℕ
chosen_by table set = cond (empty set) None (Some (choice_by table set))
