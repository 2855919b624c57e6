-- The layout of every job is read as that job. Assumes nothing.
use Rattle.std.proofs.Common.{◌≡◌, ℕ, ◌+◌, ◌≤◌, true, false, not, eqb, leb, List, [], ◌∷◌, ◌++◌, map, length, Some, None, Option, sym, refl, subst, arith}
use Rattle.std.specs.List.{flat_map}
use Rattle.std.proofs.lemmas.List.{append-nil, append_assoc, length-append}
use Rattle.std.proofs.lemmas.Bool.{and_parts, or_parts, not-true, lt-leb, eq-eqb, ne_eqb, both_ways, or_from}
use Rattle.std.proofs.lemmas.Bool.Decides.{nat_tests}
use Rattle.chip.specs.declared.flow.Flow.{Flow}
use Rattle.chip.specs.declared.parameters.FlowParameters.{FlowParameters}
use Rattle.chip.specs.declared.ticks.Ticks.{Ticks}
use Rattle.chip.specs.Flows.{flow_fault}
use Rattle.chip.specs.Reserves.{reserve_fault}
use Rattle.job.specs.declared.job.Job.{Job}
use Rattle.sheet.specs.declared.letter.Letter.{Letter}
use Rattle.sheet.specs.declared.letter.Letter.TheVariants.{D, J, L}
use Rattle.sheet.specs.declared.pair.Pair.{Pair}
use Rattle.sheet.specs.Flows.{said, labelled, distinct_labels, add_fault}
use Rattle.job.specs.Jobs.{Contents, contents, ticks_of}
use Rattle.sheet.specs.Letters.{letter_code, letter_named}
use Rattle.sheet.specs.Pairs.{pair_holds, pairs_hold, pair_fault}
use Rattle.layout.specs.declared.entry.Entry.{Entry}
use Rattle.layout.specs.declared.entry.Entry.TheVariants as entry
use Rattle.layout.specs.declared.entry.Stage.{Stage}
use Rattle.layout.specs.declared.entry.Stage.TheVariants.{FirstFlow, Flows, Pairs, Done}
use Rattle.layout.specs.Faults.{Part, blank, with_entry, allows, length_for, head_fault, value_fault}
use Rattle.layout.specs.Layout.{tag_of, value_of, entry_bytes, flow_bytes, pair_bytes, reserve_bytes, layout}
use Rattle.layout.specs.Progress.{ruled, part_of, flows_alone}
use Rattle.layout.specs.Reading.{Reads, here, next}
use Rattle.layout.proofs.Heads.{fine}
use Rattle.layout.proofs.Steps.{open_head, then_reads}

-- each value has the length that goes with its tag
right_length : (e : Entry) → length (value_of e) ≡ length_for (tag_of e)
right_length (entry.Rule letter) = refl
right_length (entry.Flow p) = refl
right_length (entry.Reserve ticks) = refl
right_length (entry.Pair q) = refl
right_length entry.End = refl

-- the head of a field that may come is sound
sound_head : (stage : Stage) (e : Entry) (rest : List ℕ) → allows stage (tag_of e) ≡ true → head_fault stage (entry_bytes e ++ rest) ≡ 0
sound_head stage e rest a =
    open_head stage (entry_bytes e ++ rest)
    (fine stage (entry_bytes e ++ rest) (value_of e ++ rest) (tag_of e) (length (value_of e)) refl a (right_length e) (omega (arith, length-append (value_of e) rest)))

-- from a state with these bytes left, sound fields lead to what is said, with those bytes left
abbrev pub Leads : Part → ℕ → List ℕ → Part → List ℕ → Type 0
Leads p at bytes q rest = (n : ℕ) × Reads (record { part = p; at = at; rest = bytes }) (record { part = q; at = n; rest = rest })

one : (p : Part) (at : ℕ) (e : Entry) (rest : List ℕ) → allows p.stage (tag_of e) ≡ true → value_fault p e ≡ 0 → Leads p at (entry_bytes e ++ rest) (with_entry p e) rest
one p at e rest a v = (
  at + length (entry_bytes e),
  next e (record { part = with_entry p e; at = at + length (entry_bytes e); rest = rest })
      (record { bytes = refl; head = sound_head p.stage e rest a; value = v; grown = refl; moved = refl }) here,
)

and_then : {p q r : Part} {at : ℕ} {bs cs ds : List ℕ} → Leads p at bs q cs → ((n : ℕ) → Leads q n cs r ds) → Leads p at bs r ds
and_then a f = let b = f a.0 in (b.0, then_reads a.1 b.1)

-- a reserve that is within its limit
abbrev within : Option ℕ → Type 0
within None = Unit {0}
within (Some n) = reserve_fault n ≡ 0

-- flows that exist, have labels of their own, and are few enough
exists : (f : Flow) → flow_fault (said f) ≡ 0
exists f = f.sound

fresh_label : (done : List FlowParameters) (p : FlowParameters) (ps : List FlowParameters) → distinct_labels (done ++ p ∷ ps) ≡ true → labelled p.label done ≡ false
fresh_label [] p ps d = refl
fresh_label (q ∷ done) p ps d =
    let parts = and_parts (not (labelled q.label (done ++ p ∷ ps))) (distinct_labels (done ++ p ∷ ps)) d in
    or_from _ _ (other done (not-true _ parts.0)) (fresh_label done p ps parts.1)
  where
    other : (before : List FlowParameters) → labelled q.label (before ++ p ∷ ps) ≡ false → eqb p.label q.label ≡ false
    other [] h = let e = (or_parts (eqb q.label p.label) (labelled q.label ps) h).0 in ne_eqb _ _ (λ h. absurd (both_ways _ e (eq-eqb q.label p.label (sym h))))
    other (b ∷ before) h = other before (or_parts (eqb q.label b.label) (labelled q.label (before ++ p ∷ ps)) h).1

may_add : (done : List FlowParameters) (p : FlowParameters) (ps : List FlowParameters) → distinct_labels (done ++ p ∷ ps) ≡ true → length (done ++ p ∷ ps) ≤ 20 → add_fault done p ≡ 0
may_add done p ps d h =
    let few : leb 20 (length done) ≡ false = lt-leb 20 (length done) (omega (arith, length-append done (p ∷ ps))) in
    rw (fresh_label done p ps d, few)

-- flows after those that are read
more_flows : (l : Letter) (fs : List Flow) (done : List FlowParameters) (at : ℕ) (rest : List ℕ) → distinct_labels (done ++ map said fs) ≡ true → length (done ++ map said fs) ≤ 20 →
    Leads (part_of Flows (flows_alone l done)) at (flat_map flow_bytes (map said fs) ++ rest) (part_of Flows (flows_alone l (done ++ map said fs))) rest
more_flows l [] done at rest d h = (at, subst (λ (ps : List FlowParameters). Reads (record { part = part_of Flows (flows_alone l done); at = at; rest = rest }) (record { part = part_of Flows (flows_alone l ps); at = at; rest = rest })) (sym (append-nil done)) here)
more_flows l (f ∷ fs) done at rest d h =
    let again = append_assoc done (said f ∷ []) (map said fs) in
    let first = one (part_of Flows (flows_alone l done)) at (entry.Flow (said f)) (flat_map flow_bytes (map said fs) ++ rest) refl (rw (exists f) (may_add done (said f) (map said fs) d h)) in
    let others : (n : ℕ) → Leads (part_of Flows (flows_alone l (done ++ said f ∷ []))) n (flat_map flow_bytes (map said fs) ++ rest) (part_of Flows (flows_alone l (done ++ said f ∷ map said fs))) rest =
    λ n. subst (λ (ps : List FlowParameters). Leads (part_of Flows (flows_alone l (done ++ said f ∷ []))) n (flat_map flow_bytes (map said fs) ++ rest) (part_of Flows (flows_alone l ps)) rest) again
    (more_flows l fs (done ++ said f ∷ []) n rest (subst (λ (ps : List FlowParameters). distinct_labels ps ≡ true) (sym again) d) (subst (λ (ps : List FlowParameters). length ps ≤ 20) (sym again) h)) in
    subst (λ (bs : List ℕ). Leads (part_of Flows (flows_alone l done)) at bs (part_of Flows (flows_alone l (done ++ said f ∷ map said fs))) rest) (sym (append_assoc (flow_bytes (said f)) (flat_map flow_bytes (map said fs)) rest))
    (and_then first others)

-- all flows, of which there is one at least
all_flows : (l : Letter) (fs : List Flow) (at : ℕ) (rest : List ℕ) → 1 ≤ length (map said fs) → distinct_labels (map said fs) ≡ true → length (map said fs) ≤ 20 →
    Leads (ruled l) at (flat_map flow_bytes (map said fs) ++ rest) (part_of Flows (flows_alone l (map said fs))) rest
all_flows l [] at rest some d h = absurd (omega arith)
all_flows l (f ∷ fs) at rest some d h =
    subst (λ (bs : List ℕ). Leads (ruled l) at bs (part_of Flows (flows_alone l (said f ∷ map said fs))) rest) (sym (append_assoc (flow_bytes (said f)) (flat_map flow_bytes (map said fs)) rest))
    (and_then (one (ruled l) at (entry.Flow (said f)) (flat_map flow_bytes (map said fs) ++ rest) refl (rw (exists f) (may_add [] (said f) (map said fs) d h)))
    (λ n. more_flows l fs (said f ∷ []) n rest d h))

abbrev with_pairs : Contents → List Pair → Contents
with_pairs c qs = record { letter = c.letter; flows = c.flows; reserve = c.reserve; pairs = qs }

may_pair : (ps : List FlowParameters) (done : List Pair) (q : Pair) (qs : List Pair) → pairs_hold ps (q ∷ qs) ≡ true → length (done ++ q ∷ qs) ≤ 16 → pair_fault ps done q ≡ 0
may_pair ps done q qs d h =
    let few : leb 16 (length done) ≡ false = lt-leb 16 (length done) (omega (arith, length-append done (q ∷ qs))) in
    rw ((and_parts (pair_holds ps q) (pairs_hold ps qs) d).0, few)

-- pairs after those that are read, and then the end
all_pairs : (s : Stage) (c : Contents) (qs done : List Pair) (at : ℕ) → allows s 0x04 ≡ true → allows s 0x05 ≡ true → pairs_hold c.flows qs ≡ true → length (done ++ qs) ≤ 16 →
    Leads (part_of s (with_pairs c done)) at (flat_map pair_bytes qs ++ entry_bytes entry.End) (part_of Done (with_pairs c (done ++ qs))) []
all_pairs s c [] done at a b d h =
    subst (λ (ps : List Pair). Leads (part_of s (with_pairs c done)) at (entry_bytes entry.End) (part_of Done (with_pairs c ps)) []) (sym (append-nil done))
    (one (part_of s (with_pairs c done)) at entry.End [] b refl)
all_pairs s c (q ∷ qs) done at a b d h =
    let again = append_assoc done (q ∷ []) qs in
    let first = one (part_of s (with_pairs c done)) at (entry.Pair q) (flat_map pair_bytes qs ++ entry_bytes entry.End) a (may_pair c.flows done q qs d h) in
    let others : (n : ℕ) → Leads (part_of Pairs (with_pairs c (done ++ q ∷ []))) n (flat_map pair_bytes qs ++ entry_bytes entry.End) (part_of Done (with_pairs c (done ++ q ∷ qs))) [] =
    λ n. subst (λ (ps : List Pair). Leads (part_of Pairs (with_pairs c (done ++ q ∷ []))) n (flat_map pair_bytes qs ++ entry_bytes entry.End) (part_of Done (with_pairs c ps)) []) again
    (all_pairs Pairs c qs (done ++ q ∷ []) n refl refl (and_parts (pair_holds c.flows q) (pairs_hold c.flows qs) d).1 (subst (λ (ps : List Pair). length ps ≤ 16) (sym again) h)) in
    subst (λ (bs : List ℕ). Leads (part_of s (with_pairs c done)) at bs (part_of Done (with_pairs c (done ++ q ∷ qs))) []) (sym (append_assoc (pair_bytes q) (flat_map pair_bytes qs) (entry_bytes entry.End)))
    (and_then first others)

-- the reserve, if there is one, the pairs and the end
all_wishes : (l : Letter) (ps : List FlowParameters) (r : Option ℕ) (qs : List Pair) (at : ℕ) → within r → pairs_hold ps qs ≡ true → length qs ≤ 16 →
    Leads (part_of Flows (flows_alone l ps)) at (reserve_bytes r ++ (flat_map pair_bytes qs ++ entry_bytes entry.End)) (part_of Done (record { letter = l; flows = ps; reserve = r; pairs = qs })) []
all_wishes l ps None qs at w d h = all_pairs Flows (flows_alone l ps) qs [] at refl refl d h
all_wishes l ps (Some n) qs at w d h =
    and_then (one (part_of Flows (flows_alone l ps)) at (entry.Reserve n) (flat_map pair_bytes qs ++ entry_bytes entry.End) refl w)
    (λ m. all_pairs Pairs (record { letter = l; flows = ps; reserve = Some n; pairs = [] }) qs [] m refl refl d h)

letter_known : (l : Letter) → letter_named (letter_code l) ≡ Some l
letter_known D = refl
letter_known J = refl
letter_known L = refl

regroup : (a b c d e : List ℕ) → a ++ b ++ c ++ d ++ e ≡ a ++ (b ++ (c ++ (d ++ e)))
regroup a b c d e = simp append_assoc

few_ticks : (o : Option Ticks) → within (ticks_of o)
few_ticks None = tt
few_ticks (Some t) = let f = t.few in grind (arith, nat_tests)

begins : (l : Letter) (rest : List ℕ) → Leads blank 0 (entry_bytes (entry.Rule (letter_code l)) ++ rest) (ruled l) rest
begins l rest =
    subst (λ (o : Option Letter). Leads blank 0 (entry_bytes (entry.Rule (letter_code l)) ++ rest) (record { stage = FirstFlow; letter = o; flows = []; reserve = None; pairs = [] }) rest) (letter_known l)
    (one blank 0 (entry.Rule (letter_code l)) rest refl (rw (letter_known l)))

pub layout_read : (j : Job) → Leads blank 0 (layout (contents j)) (part_of Done (contents j)) []
layout_read j =
    let fs = j.sheet.flows.items in
    let qs = j.pairs.items in
    let l = j.letter in
    let r = ticks_of j.reserve in
    let wishes = reserve_bytes r ++ (flat_map pair_bytes qs ++ entry_bytes entry.End) in
    subst (λ (bs : List ℕ). Leads blank 0 bs (part_of Done (contents j)) []) (sym (regroup (entry_bytes (entry.Rule (letter_code l))) (flat_map flow_bytes (map said fs)) (reserve_bytes r) (flat_map pair_bytes qs) (entry_bytes entry.End)))
    (and_then (begins l (flat_map flow_bytes (map said fs) ++ wishes))
    (λ n. and_then (all_flows l fs n wishes j.sheet.some j.sheet.distinct j.sheet.few)
    (λ m. all_wishes l (map said fs) r qs m (few_ticks j.reserve) j.known j.few)))
