-- What each reading call has read once it has passed over a field. Assumes nothing.
use Rattle.std.proofs.Common.{◌≡◌, ℕ, ◌<◌, List, [], ◌∷◌, length, Some, None, Ok, Err, Option, Result, sym, refl, subst, arith, MatchResult}
use Rattle.std.specs.Result.{IsErrAnd}
use Rattle.std.specs.Option.{ok_or}
use Rattle.std.proofs.lemmas.Bool.{false≢true}
use Rattle.std.proofs.lemmas.Bool.Decides.{nat_tests}
use Rattle.chip.specs.declared.flow.Flow.{Flow}
use Rattle.chip.specs.declared.parameters.FlowParameters.{FlowParameters}
use Rattle.chip.specs.declared.refusal.Refusal.{Refusal}
use Rattle.chip.specs.declared.refusal.Refusal.TheVariants as refusal
use Rattle.chip.specs.Flows.{Answers, flow_fault}
use Rattle.chip.specs.Refusals.{number_of}
use Rattle.sheet.specs.declared.letter.Letter.{Letter}
use Rattle.sheet.specs.declared.pair.Pair.{Pair}
use Rattle.job.specs.Jobs.{Contents}
use Rattle.sheet.specs.Letters.{letter_named}
use Rattle.layout.specs.declared.entry.Entry.{Entry}
use Rattle.layout.specs.declared.entry.Entry.TheVariants as entry
use Rattle.layout.specs.declared.entry.Stage.{Stage}
use Rattle.layout.specs.declared.entry.Stage.TheVariants.{Rule, FirstFlow, Flows, Done}
use Rattle.layout.specs.declared.fault.Fault.{Fault}
use Rattle.layout.specs.Cursor.{Peeked, Misheaded, Cursor}
use Rattle.layout.specs.Faults.{Part, blank, with_entry, open_fault, head_fault, value_fault, or_else}
use Rattle.layout.specs.Progress.{standing, Ends, ruled, part_of, flows_alone, Refuses, Underway, LastWish, placed}
use Rattle.layout.specs.Reading.{State, Reads, here as at_once, in_head}
use Rattle.layout.proofs.Steps.{one_field, bad_head, bad_value, then_reads, then_refuses}

first_only : (n m : ℕ) → m ≡ n → m ≡ or_else n 0
first_only n m e = grind (arith, nat_tests)

module _ (before after : Cursor) where
  -- the rule field, as its letter is known or not
  letter_known : (byte : ℕ) (o : Option Letter) → letter_named byte ≡ o → Peeked Rule before after (entry.Rule byte) →
      MatchResult (placed after.field (ok_or o refusal.RuleLetter)) (λ l. Reads (standing blank before) (standing (ruled l) after)) (λ f. Refuses (standing blank before) f)
  letter_known byte (Some l) e p =
      subst (λ (o : Option Letter). Reads (standing blank before) (standing (record { stage = FirstFlow; letter = o; flows = []; reserve = None; pairs = [] }) after)) e
      (one_field blank before after (entry.Rule byte) p (rw e))
  letter_known byte None e p = bad_value blank before after (entry.Rule byte) (record { refusal = refusal.RuleLetter; byte = after.field }) p (rw e) refl

  pub letter_read : (byte : ℕ) → Peeked Rule before after (entry.Rule byte) →
      MatchResult (placed after.field (ok_or (letter_named byte) refusal.RuleLetter)) (λ l. Reads (standing blank before) (standing (ruled l) after)) (λ f. Refuses (standing blank before) f)
  letter_read byte p = letter_known byte (letter_named byte) refl p

  -- the first flow, as it exists or not
  pub flow_read : (l : Letter) (p : FlowParameters) (o : Result Flow Refusal) → Answers o (flow_fault p) (λ f. f.parameters ≡ p) → Peeked FirstFlow before after (entry.Flow p) →
      MatchResult (placed after.field o) (λ flow. Reads (standing (ruled l) before) (standing (part_of Flows (flows_alone l (flow.parameters ∷ []))) after)) (λ f. Refuses (standing (ruled l) before) f)
  flow_read l p (Ok flow) a k =
      subst (λ (q : FlowParameters). Reads (standing (ruled l) before) (standing (part_of Flows (flows_alone l (q ∷ []))) after)) (sym a.1)
      (one_field (ruled l) before after (entry.Flow p) k (rw a.0))
  flow_read l p (Err e) a k = bad_value (ruled l) before after (entry.Flow p) (record { refusal = e; byte = after.field }) k (first_only (flow_fault p) (number_of e) a) refl

-- a field that was passed over is read, if what it says is sound, or else refused
module _ (from : State) (here : Cursor) (c : Contents) (e : Entry) (u : Underway from here c e) where
  pub entry_read : (stage : Stage) (d : Contents) → ((s : Stage) → value_fault (part_of s c) e ≡ 0) → ((s : Stage) → with_entry (part_of s c) e ≡ part_of stage d) → Reads from (standing (part_of stage d) here)
  entry_read stage d v g =
      then_reads u.reached (subst (λ (p : Part). Reads (standing (part_of u.stage c) u.before) (standing p here)) (g u.stage) (one_field (part_of u.stage c) u.before here e u.peeked (v u.stage)))

  pub entry_refused : (f : Fault) → ((s : Stage) → number_of f.refusal ≡ value_fault (part_of s c) e) → f.byte ≡ here.field → Refuses from f
  entry_refused f n b = then_refuses u.reached (bad_value (part_of u.stage c) u.before here e f u.peeked (n u.stage) b)

-- after sound fields, the head of the next
module _ (from : State) (before : Cursor) (stage : Stage) (c : Contents) (reached : Reads from (standing (part_of stage c) before)) where
  pub head_refused : (f : Fault) → head_fault stage before.left ≡ open_fault stage before.left → Misheaded stage before f → Refuses from f
  head_refused f e m = then_refuses reached (bad_head (part_of stage c) before f e m)

  pub head_passed : (after : Cursor) (e : Entry) → Peeked stage before after e → Underway from after c e
  head_passed after e p = record { stage = stage; before = before; reached = reached; peeked = p }

-- the end field, and nothing after it
module _ (from : State) (here : Cursor) (c : Contents) where
  end_of : (e : Entry) → LastWish e → ((q : Pair) → e ≡ entry.Pair q → ⊥) → e ≡ entry.End
  end_of (entry.Rule byte) w n = absurd (false≢true w)
  end_of (entry.Flow p) w n = absurd (false≢true w)
  end_of (entry.Reserve ticks) w n = absurd (false≢true w)
  end_of (entry.Pair q) w n = absurd (n q refl)
  end_of entry.End w n = refl

  pub end_read : (e : Entry) → Underway from here c e → LastWish e → ((q : Pair) → e ≡ entry.Pair q → ⊥) → Reads from (standing (part_of Done c) here)
  end_read e u w n =
      entry_read from here c entry.End (subst (λ (x : Entry). Underway from here c x) (end_of e w n) u) Done c (λ s. refl) (λ s. refl)

  -- the input ends there
  pub ended : Reads from (standing (part_of Done c) here) → here.left ≡ [] → Ends from c
  ended r e = (here.at, subst (λ (bs : List ℕ). Reads from (record { part = part_of Done c; at = here.at; rest = bs })) e r)

  -- bytes that follow it are at fault
  pub trailing : (f : Fault) → Reads from (standing (part_of Done c) here) → 0 < length here.left → f ≡ record { refusal = refusal.TrailingBytes; byte = here.at } → Refuses from f
  trailing f r h e = rw e (then_refuses r (record { state = standing (part_of Done c) here; reached = here_reads; fault = in_head (more here.left h); place = refl }))
    where
      here_reads : Reads (standing (part_of Done c) here) (standing (part_of Done c) here)
      here_reads = at_once

      more : (rest : List ℕ) → 0 < length rest → head_fault Done rest ≡ 13
      more [] h = absurd (omega arith)
      more (b ∷ rest) h = refl

-- a refusal handed on
pub handed_on : {X : Type 0} (P : X → Type 0) (Q : Fault → Type 0) (r : Result X Fault) (f : Fault) → IsErrAnd r (λ g. g ≡ f) → Q f → MatchResult r P Q
handed_on P Q (Ok x) f e q = absurd e
handed_on P Q (Err g) f e q = subst Q (sym e) q
