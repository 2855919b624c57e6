-- A run keeps its promise: call by call, and at its end. Assumes nothing.
--   Running          what holds after i calls
--   running_none, -more    no call, and one call more
--   ran, promised    what a run leaves, and its promise
use Rattle.std.proofs.Common.{◌≡◌, ℕ, zero, suc, ◌+◌, ◌-◌, ◌<◌, ◌≤◌, Bool, true, false, cond, eqb, leb, List, [], ◌∷◌, ◌++◌, length, get_or, take, drop, Some, None, Ok, Err, Option, sym, refl, ap, ◌∙◌, subst, ap₂, ⊎_elim, add-zero, arith}
use lib.ListN as ListN
use Rattle.std.proofs.lemmas.Bool.{both_ways, cases_eq, cond-true, eqb-true, ne_eqb, le-leb, and_from}
use Rattle.std.proofs.lemmas.List.{take_more, take_more_set, take-set-le, length-take, length-set, get_or-set_same, get_or-set_other, drop-set-lt, drop-drop}
use Rattle.chip.specs.declared.refusal.Refusal.TheVariants.{AdvanceOfZero, AdvanceAfterEnd, LevelOutside}
use Rattle.rule.specs.Laws.{Lawful}
use Rattle.rule.specs.Lists.{is_flow}
use Rattle.rule.specs.Meaning.{Meaning, NoLater}
use Rattle.runs.specs.declared.calls.Call.{Call}
use Rattle.runs.specs.declared.calls.Call.TheVariants as C
use Rattle.runs.specs.declared.calls.Answer.TheVariants as A
use Rattle.search.specs.declared.tables.Walk.{Walk}
use Rattle.search.specs.declared.tables.Outcome.TheVariants.{NoOrder}
use Rattle.search.specs.Candidates.{time_of}
use Rattle.walk.specs.Walk.{State, going, found, nothing, steps, after, ended}
use Rattle.walk.specs.WalkLaw.{WalkLaw, NoOrderPasses}
use Rattle.search.specs.Tables.{standing}
use Rattle.search.specs.Searches.{Walked}
use Rattle.search.specs.Answers.{outcome_of, advance_reply, level_at}
use Rattle.runs.specs.Runs.{Rival, Reply, replied, reply_to, state_after, buffer_after, placings_of, accepted, allowed, state_at, call_at, reply_at, buffer_at}
use Rattle.runs.specs.Promise.{Made, ToldLevel, Promise, made_of, Ran}
use Rattle.search.proofs.Advanced.{steps_stay}
use Rattle.walk.proofs.Lawfully.{walk_law}

-- one call and reply more
allowed_push : (cs : List Call) (rs : List Reply) (c : Call) (r : Reply) → length cs ≡ length rs → allowed (cs ++ c ∷ []) (rs ++ r ∷ []) ≡ allowed cs rs + accepted r (placings_of c)
allowed_push [] [] c r e = omega arith
allowed_push [] (s ∷ rs) c r e = absurd (omega arith)
allowed_push (d ∷ cs) [] c r e = absurd (omega arith)
allowed_push (d ∷ cs) (s ∷ rs) c r e = let t = allowed_push cs rs c r (omega arith) in omega arith

accepted_none : (r : Reply) → accepted r 0 ≡ 0
accepted_none (Ok A.Advanced) = refl
accepted_none (Ok (A.Outcome o)) = refl
accepted_none (Ok (A.Count n)) = refl
accepted_none (Ok (A.Level l)) = refl
accepted_none (Ok (A.Plan n)) = refl
accepted_none (Ok (A.Same b)) = refl
accepted_none (Err e) = refl

-- a call moves the walk by the placings that it is allowed
module _ (m : Meaning) (law : WalkLaw m) (other : Option Rival) (room k : ℕ) where
  advance_moves : (placings : ℕ) (none over : Bool) → eqb placings 0 ≡ none → ended (after m k) ≡ over → steps m placings (after m k) ≡ after m (k + accepted (replied {T = Unit {0}} (λ done. A.Advanced) (cond none (Err AdvanceOfZero) (cond over (Err AdvanceAfterEnd) (Ok tt)))) placings)
  advance_moves placings true over e q = ap (λ (n : ℕ). steps m n (after m k)) (eqb-true placings 0 e) ∙ ap (after m) (sym (add-zero k))
  advance_moves placings false true e q = steps_stay m placings (after m k) q ∙ ap (after m) (sym (add-zero k))
  advance_moves placings false false e q = law.onward k placings

  stays : (r : Reply) → after m k ≡ after m (k + accepted r 0)
  stays r = ap (after m) (sym (ap (λ (n : ℕ). k + n) (accepted_none r) ∙ add-zero k))

  moves : (call : Call) → state_after m (after m k) call ≡ after m (k + accepted (reply_to m other room (after m k) call) (placings_of call))
  moves (C.Advance placings) = advance_moves placings (eqb placings 0) (ended (after m k)) refl refl
  moves C.Outcome = stays (reply_to m other room (after m k) C.Outcome)
  moves C.Count = stays (reply_to m other room (after m k) C.Count)
  moves (C.Level l) = stays (reply_to m other room (after m k) (C.Level l))
  moves C.Plan = stays (reply_to m other room (after m k) C.Plan)
  moves C.Same = stays (reply_to m other room (after m k) C.Same)

-- after i calls: the replies so far, the walk, the buffer, and what is still as it was
pub record Running (m : Meaning) (other : Option Rival) (calls : List Call) (base : List Reply) (buffer : List ℕ) (replies : List Reply) (plan : List ℕ) (w : Walk) (i : ℕ) : Type 0 where
  pub sized : length replies ≡ length base
  pub room : length plan ≡ length buffer
  pub walked : Walked m w
  pub stands : standing w ≡ state_at m calls replies i
  pub answers : (j : ℕ) → j < i → reply_at replies j ≡ reply_to m other (length buffer) (state_at m calls replies j) (call_at calls j)
  pub rest : drop i replies ≡ drop i base
  pub writes : plan ≡ buffer_at m calls replies buffer i

pub running_none : (m : Meaning) (other : Option Rival) (calls : List Call) (base : List Reply) (buffer : List ℕ) (w : Walk) → Walked m w → standing w ≡ after m 0 → Running m other calls base buffer base buffer w 0
running_none m other calls base buffer w v e =
    record { sized = refl; room = refl; walked = v; stands = e; answers = λ j h. absurd (omega arith); rest = refl; writes = refl }

-- a reply written at i leaves what came before it
module _ (m : Meaning) (calls : List Call) (replies : List Reply) (i : ℕ) (r : Reply) where
  state_kept : (j : ℕ) → j ≤ i → state_at m calls (ListN.set replies i r) j ≡ state_at m calls replies j
  state_kept j h = ap (λ (rs : List Reply). after m (allowed (take j calls) rs)) (take-set-le j replies i r h)

  buffer_kept : (buffer : List ℕ) (j : ℕ) → j ≤ i → buffer_at m calls (ListN.set replies i r) buffer j ≡ buffer_at m calls replies buffer j
  buffer_kept buffer zero h = refl
  buffer_kept buffer (suc j) h =
      ap (λ (s : State). buffer_after m s (call_at calls j) (buffer_at m calls (ListN.set replies i r) buffer j)) (state_kept j (omega arith))
      ∙ ap (buffer_after m (state_at m calls replies j) (call_at calls j)) (buffer_kept buffer j (omega arith))

-- one call more
module _ (m : Meaning) (laws : Lawful m) (other : Option Rival) (calls : List Call) (base : List Reply) (buffer : List ℕ) (replies : List Reply) (plan : List ℕ) (w : Walk) (i : ℕ) (s : Running m other calls base buffer replies plan w i) (call : Call) (is : call ≡ call_at calls i) (in-calls : i < length calls) (in-base : i < length base) (next : Walk) (written : List ℕ) (r : Reply) (d : Made m other call w next plan written r) where
  abbrev later : List Reply
  later = ListN.set replies i r

  abbrev k : ℕ
  k = allowed (take i calls) (take i replies)

  in_replies : i < length replies
  in_replies = let e = s.sized in omega arith

  reply_is : r ≡ reply_to m other (length buffer) (state_at m calls replies i) (call_at calls i)
  reply_is =
      d.answers s.walked ∙ ap (λ (n : ℕ). reply_to m other n (standing w) call) s.room
      ∙ ap (λ (x : State). reply_to m other (length buffer) x call) s.stands ∙ ap (reply_to m other (length buffer) (state_at m calls replies i)) is

  allowed_more : allowed (take (i + 1) calls) (take (i + 1) later) ≡ k + accepted r (placings_of (call_at calls i))
  allowed_more =
      ap₂ allowed (take_more calls i (C.Advance 0) in-calls) (take_more_set replies i r in_replies)
      ∙ allowed_push (take i calls) (take i replies) (call_at calls i) r (let a = length-take i calls in let b = length-take i replies in let c = in_replies in let e = in-calls in omega arith)

  next_stands : standing next ≡ state_at m calls later (i + 1)
  next_stands =
      d.stands s.walked ∙ ap (λ (x : State). state_after m x call) s.stands ∙ ap (state_after m (after m k)) is
      ∙ moves m (walk_law m laws) other (length buffer) k (call_at calls i)
      ∙ ap (λ (x : Reply). after m (k + accepted x (placings_of (call_at calls i)))) (sym reply_is) ∙ ap (after m) (sym allowed_more)

  next_answers : (j : ℕ) → j < i + 1 → reply_at later j ≡ reply_to m other (length buffer) (state_at m calls later j) (call_at calls j)
  next_answers j h = ⊎_elim here before (cases_eq j i)
    where
      at_state : reply_to m other (length buffer) (state_at m calls replies j) (call_at calls j) ≡ reply_to m other (length buffer) (state_at m calls later j) (call_at calls j)
      at_state = ap (λ (x : State). reply_to m other (length buffer) x (call_at calls j)) (sym (state_kept m calls replies i r j (omega arith)))

      here : j ≡ i → reply_at later j ≡ reply_to m other (length buffer) (state_at m calls later j) (call_at calls j)
      here e =
          ap (reply_at later) e ∙ get_or-set_same replies i r (Ok A.Advanced) in_replies ∙ reply_is
          ∙ ap (λ (n : ℕ). reply_to m other (length buffer) (state_at m calls replies n) (call_at calls n)) (sym e) ∙ at_state

      before : (j ≡ i → ⊥) → reply_at later j ≡ reply_to m other (length buffer) (state_at m calls later j) (call_at calls j)
      before ne = get_or-set_other replies i j r (Ok A.Advanced) ne ∙ s.answers j (omega arith) ∙ at_state

  next_rest : drop (i + 1) later ≡ drop (i + 1) base
  next_rest = drop-set-lt (i + 1) replies i r (omega arith) ∙ sym (drop-drop 1 i replies) ∙ ap (drop 1) s.rest ∙ drop-drop 1 i base

  next_writes : written ≡ buffer_at m calls later buffer (i + 1)
  next_writes =
      let e : suc i ≡ i + 1 = omega arith in
      d.writes s.walked ∙ ap (λ (x : State). buffer_after m x call plan) s.stands ∙ ap (λ (x : Call). buffer_after m (state_at m calls replies i) x plan) is
      ∙ ap (buffer_after m (state_at m calls replies i) (call_at calls i)) s.writes
      ∙ sym (ap (λ (x : State). buffer_after m x (call_at calls i) (buffer_at m calls later buffer i)) (state_kept m calls replies i r i (omega arith)) ∙ ap (buffer_after m (state_at m calls replies i) (call_at calls i)) (buffer_kept m calls replies i r buffer i (omega arith)))
      ∙ ap (buffer_at m calls later buffer) e

  pub running_more : length written ≡ length plan → Running m other calls base buffer later written next (i + 1)
  running_more same =
      record {
        sized = length-set replies i r ∙ s.sized;
        room = same ∙ s.room;
        walked = d.walked s.walked;
        stands = next_stands;
        answers = next_answers;
        rest = next_rest;
        writes = next_writes;
      }

-- the promise, from what the replies are and the law of the walk
module _ (m : Meaning) (law : WalkLaw m) where
  ended_exact : (k : ℕ) (s : State) → after m k ≡ s → ended s ≡ true → (outcome_of s ≡ NoOrder → NoOrderPasses m) × (NoOrderPasses m → outcome_of s ≡ NoOrder)
  ended_exact k (going count sure untried below) e h = absurd (both_ways false refl h)
  ended_exact k (found count order) e h = (
    λ q. let z : ◌≡◌ {A = ℕ} 0 1 = cc in absurd (omega arith),
    λ none. let p = law.order_passes k count order e in absurd (none order p.each_once p.bounded),
  )
  ended_exact k (nothing count) e h = (λ q. law.nothing_passes k count e, λ none. refl)

  in_time : (x : Option ℕ) (last : ℕ) → NoLater x last → (r : ℕ) × (x ≡ Some r) × (r ≤ last)
  in_time None last h = absurd h
  in_time (Some r) last h = (r, refl, h)

  level_of : (k : ℕ) (count : ℕ) (order : List ℕ) → after m k ≡ found count order → (l : ℕ) → 1 ≤ l → l ≤ m.flows → ToldLevel m count order l
  level_of k count order e l a b =
      let p = law.order_passes k count order e in
      let t = in_time (m.bound (get_or order (l - 1) 0) (take (l - 1) order)) (m.deadline (get_or order (l - 1) 0)) (p.timely (l - 1) (omega arith)) in
      record {
        bound = t.0;
        told = cond-true (is_flow m.flows l) (Ok (level_at m order l)) (Err LevelOutside) (and_from (leb 1 l) (leb l m.flows) (le-leb 1 l a) (le-leb l m.flows b)) ∙ ap (λ (x : Option ℕ). Ok (record { flow = get_or order (l - 1) 0; bound = time_of x })) t.1;
        own = t.1;
        timely = t.2;
      }

  le_lt : {a b c : ℕ} → a ≤ b → b < c → a < c
  le_lt p q = omega arith

  accepts_open : (s : State) (placings : ℕ) → ended s ≡ false → 1 ≤ placings → replied (λ done. A.Advanced) (advance_reply s placings) ≡ Ok A.Advanced
  accepts_open s placings e h = rw (ne_eqb placings 0 (λ (z : placings ≡ 0). let y = h in omega arith), e) refl

  pub promised : (other : Option Rival) (calls : List Call) (replies : List Reply) (room made : ℕ) (w : Walk) → ((i : ℕ) → i < made → reply_at replies i ≡ reply_to m other room (state_at m calls replies i) (call_at calls i)) → standing w ≡ state_at m calls replies made → Promise m other calls replies room made w
  promised other calls replies room made w told stands =
      record {
        answers = told;
        follows = stands;
        none_exact = λ i h. ended_exact (allowed (take i calls) (take i replies)) (state_at m calls replies i) refl h;
        each_once = λ i count order e. (law.order_passes (allowed (take i calls) (take i replies)) count order e).each_once;
        levels = λ i count order e l a b. level_of (allowed (take i calls) (take i replies)) count order e l a b;
        accepts = λ i placings h e c l. told i h ∙ ap (reply_to m other room (state_at m calls replies i)) c ∙ accepts_open (state_at m calls replies i) placings e l;
        count_open = λ i h. law.open_count (allowed (take i calls) (take i replies)) h;
        count_most = λ i. law.count_most (allowed (take i calls) (take i replies));
        counted = λ i. sym (law.at_count (allowed (take i calls) (take i replies)));
        count_small = λ i. let a = law.count_small (allowed (take i calls) (take i replies)) in let b = law.most_small in le_lt a b;
        ends = λ i h. law.ends (allowed (take i calls) (take i replies)) h;
      }

-- a run at its end, of a search whose rule means what the rule given means
module _ (m n : Meaning) (same : m ≡ n) (laws : Lawful n) (other : Option Rival) (calls : List Call) (base : List Reply) (buffer : List ℕ) (replies : List Reply) (plan : List ℕ) (w : Walk) (i : ℕ) (s : Running m other calls base buffer replies plan w i) (all : i ≡ made_of calls base) where
  end_state : Running n other calls base buffer replies plan w (made_of calls base)
  end_state =
      subst (λ (x : Meaning). Running x other calls base buffer replies plan w (made_of calls base)) same
      (subst (λ (k : ℕ). Running m other calls base buffer replies plan w k) all s)

  pub end_walked : Walked n w
  end_walked = end_state.walked

  pub end_ran : Ran n calls base replies buffer plan
  end_ran = record { rest = end_state.rest; plans = end_state.writes }

  pub end_promise : Promise n other calls replies (length buffer) (made_of calls base) w
  end_promise = promised n (walk_law n laws) other calls replies (length buffer) (made_of calls base) w end_state.answers end_state.stands

-- a call on a search whose rule means the same
pub made_under : (m n : Meaning) (other : Option Rival) (call : Call) (before after : Walk) (buffer written : List ℕ) (reply : Reply) → m ≡ n → Made m other call before after buffer written reply → Made n other call before after buffer written reply
made_under m n other call before after buffer written reply e d = subst (λ (x : Meaning). Made x other call before after buffer written reply) e d
