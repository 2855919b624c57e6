-- What was read is what stands before the cursor: the fields so far, laid out. Assumes nothing.
use Rattle.std.proofs.Common.{◌≡◌, ℕ, true, List, [], ◌++◌, is_some, Some, None, Option, sym, refl, ap, ◌∙◌, subst, arith}
use Rattle.std.specs.List.{flat_map}
use Rattle.std.proofs.lemmas.List.{append-nil, append_assoc, flat_map_more}
use Rattle.std.proofs.lemmas.Bool.{false≢true}
use Rattle.std.proofs.lemmas.Bool.Decides.{nat_tests}
use Rattle.chip.specs.declared.parameters.FlowParameters.{FlowParameters}
use Rattle.sheet.specs.declared.letter.Letter.{Letter}
use Rattle.sheet.specs.declared.pair.Pair.{Pair}
use Rattle.job.specs.Jobs.{Contents}
use Rattle.sheet.specs.Letters.{letter_code, letter_named}
use Rattle.layout.specs.declared.entry.Entry.{Entry}
use Rattle.layout.specs.declared.entry.Entry.TheVariants as entry
use Rattle.layout.specs.declared.entry.Stage.{Stage}
use Rattle.layout.specs.declared.entry.Stage.TheVariants.{Rule, FirstFlow, Flows, Pairs, Done}
use Rattle.layout.specs.Faults.{Part, blank, with_entry, allows, head_fault, value_fault}
use Rattle.layout.specs.Layout.{tag_of, entry_bytes, reserve_bytes, layout}
use Rattle.layout.specs.Progress.{part_of, Ends}
use Rattle.layout.specs.Reading.{State, Reads, here, next, start}
use Rattle.layout.proofs.Steps.{allowed_tag}

-- the bytes of a field, not opened here
bytes_of : Entry → List ℕ
bytes_of e = entry_bytes e

rule_bytes : Option Letter → List ℕ
rule_bytes None = []
rule_bytes (Some l) = bytes_of (entry.Rule (letter_code l))

abbrev flow_bytes : FlowParameters → List ℕ
flow_bytes p = bytes_of (entry.Flow p)

ticks_bytes : Option ℕ → List ℕ
ticks_bytes None = []
ticks_bytes (Some ticks) = bytes_of (entry.Reserve ticks)

abbrev pair_bytes : Pair → List ℕ
pair_bytes q = bytes_of (entry.Pair q)

end_bytes : Stage → List ℕ
end_bytes Rule = []
end_bytes FirstFlow = []
end_bytes Flows = []
end_bytes Pairs = []
end_bytes Done = bytes_of entry.End

-- the bytes of what was said so far
so_far : Part → List ℕ
so_far p = rule_bytes p.letter ++ flat_map flow_bytes p.flows ++ ticks_bytes p.reserve ++ flat_map pair_bytes p.pairs ++ end_bytes p.stage

-- what a stage still lacks
abbrev Lacks : Stage → Part → Type 0
Lacks Rule p = (p.letter ≡ None) × (p.flows ≡ []) × (p.reserve ≡ None) × (p.pairs ≡ [])
Lacks FirstFlow p = (p.flows ≡ []) × (p.reserve ≡ None) × (p.pairs ≡ [])
Lacks Flows p = (p.reserve ≡ None) × (p.pairs ≡ [])
Lacks Pairs p = Unit {0}
Lacks Done p = Unit {0}

abbrev Shaped : Part → Type 0
Shaped p = Lacks p.stage p

-- the letter of a byte has that byte
letter_back : (b : ℕ) → is_some (letter_named b) ≡ true → rule_bytes (letter_named b) ≡ bytes_of (entry.Rule b)
unfolding rule_bytes
letter_back b h = grind (arith, nat_tests)

-- the tag of a field with a sound head may come
tag_may : (stage : Stage) (e : Entry) (rest : List ℕ) → head_fault stage (entry_bytes e ++ rest) ≡ 0 → allows stage (tag_of e) ≡ true
tag_may Rule e rest h = allowed_tag Rule (entry_bytes e ++ rest) h
tag_may FirstFlow e rest h = allowed_tag FirstFlow (entry_bytes e ++ rest) h
tag_may Flows e rest h = allowed_tag Flows (entry_bytes e ++ rest) h
tag_may Pairs e rest h = allowed_tag Pairs (entry_bytes e ++ rest) h
tag_may Done e rest h = absurd (omega arith)

known : (b : ℕ) → value_fault blank (entry.Rule b) ≡ 0 → is_some (letter_named b) ≡ true
known b h = grind (arith, nat_tests)

abbrev part : Stage → Option Letter → List FlowParameters → Option ℕ → List Pair → Part
part s o fs r qs = record { stage = s; letter = o; flows = fs; reserve = r; pairs = qs }

-- one field more, and its bytes stand behind those before it
abbrev Grows : Part → Entry → Type 0
Grows p e = so_far (with_entry p e) ≡ so_far p ++ bytes_of e

rule_grows : (b : ℕ) → value_fault blank (entry.Rule b) ≡ 0 → Grows (part Rule None [] None []) (entry.Rule b)
unfolding so_far rule_bytes ticks_bytes end_bytes
rule_grows b h = simp append-nil (letter_back b (known b h))

flow_grows : (s : Stage) (o : Option Letter) (fs : List FlowParameters) (p : FlowParameters) → end_bytes s ≡ [] → Grows (part s o fs None []) (entry.Flow p)
unfolding so_far ticks_bytes end_bytes
flow_grows s o fs p e = rw e (simp append-nil (sym (flat_map_more flow_bytes (rule_bytes o) fs p)))

reserve_grows : (o : Option Letter) (fs : List FlowParameters) (ticks : ℕ) → Grows (part Flows o fs None []) (entry.Reserve ticks)
unfolding so_far ticks_bytes end_bytes
reserve_grows o fs ticks = simp append-nil

pair_grows : (s : Stage) (o : Option Letter) (fs : List FlowParameters) (r : Option ℕ) (qs : List Pair) (q : Pair) → end_bytes s ≡ [] → Grows (part s o fs r qs) (entry.Pair q)
unfolding so_far end_bytes
pair_grows s o fs r qs q e = rw e (simp append-nil (sym (flat_map_more pair_bytes (rule_bytes o ++ flat_map flow_bytes fs ++ ticks_bytes r) qs q)))

end_grows : (s : Stage) (o : Option Letter) (fs : List FlowParameters) (r : Option ℕ) (qs : List Pair) → end_bytes s ≡ [] → Grows (part s o fs r qs) entry.End
unfolding so_far end_bytes
end_grows s o fs r qs e = rw e (simp append-nil)

-- what an allowed and sound field adds, and what is then still lacking
abbrev Grown : Part → Entry → Type 0
Grown p e = Grows p e × Shaped (with_entry p e)

grown : (s : Stage) (o : Option Letter) (fs : List FlowParameters) (r : Option ℕ) (qs : List Pair) (e : Entry) → Lacks s (part s o fs r qs) → allows s (tag_of e) ≡ true → value_fault (part s o fs r qs) e ≡ 0 → Grown (part s o fs r qs) e
unfolding end_bytes
grown Rule o fs r qs (entry.Rule b) l a v = rw (l.0, l.1, l.2, l.3) (rule_grows b v, (refl, refl, refl))
grown FirstFlow o fs r qs (entry.Flow p) l a v = rw (l.0, l.1, l.2) (flow_grows FirstFlow o [] p refl, (refl, refl))
grown Flows o fs r qs (entry.Flow p) l a v = rw (l.0, l.1) (flow_grows Flows o fs p refl, (refl, refl))
grown Flows o fs r qs (entry.Reserve ticks) l a v = rw (l.0, l.1) (reserve_grows o fs ticks, tt)
grown Flows o fs r qs (entry.Pair q) l a v = (pair_grows Flows o fs r qs q refl, tt)
grown Flows o fs r qs entry.End l a v = (end_grows Flows o fs r qs refl, tt)
grown Pairs o fs r qs (entry.Pair q) l a v = (pair_grows Pairs o fs r qs q refl, tt)
grown Pairs o fs r qs entry.End l a v = (end_grows Pairs o fs r qs refl, tt)
grown Rule o fs r qs (entry.Flow p) l a v = absurd (false≢true a)
grown Rule o fs r qs (entry.Reserve ticks) l a v = absurd (false≢true a)
grown Rule o fs r qs (entry.Pair q) l a v = absurd (false≢true a)
grown Rule o fs r qs entry.End l a v = absurd (false≢true a)
grown FirstFlow o fs r qs (entry.Rule b) l a v = absurd (false≢true a)
grown FirstFlow o fs r qs (entry.Reserve ticks) l a v = absurd (false≢true a)
grown FirstFlow o fs r qs (entry.Pair q) l a v = absurd (false≢true a)
grown FirstFlow o fs r qs entry.End l a v = absurd (false≢true a)
grown Flows o fs r qs (entry.Rule b) l a v = absurd (false≢true a)
grown Pairs o fs r qs (entry.Rule b) l a v = absurd (false≢true a)
grown Pairs o fs r qs (entry.Flow p) l a v = absurd (false≢true a)
grown Pairs o fs r qs (entry.Reserve ticks) l a v = absurd (false≢true a)
grown Done o fs r qs e l a v = absurd (false≢true a)

opened : (x : Entry) (bs : List ℕ) → entry_bytes x ++ bs ≡ bytes_of x ++ bs
unfolding bytes_of
opened x bs = refl

-- what is read and what is left make up the same bytes all along
read_so_far : {s t : State} → Reads s t → Shaped s.part → so_far s.part ++ s.rest ≡ so_far t.part ++ t.rest
read_so_far here h = refl
read_so_far {s} {t} (next e u sound rest) h =
    let p = s.part in
    let g = grown p.stage p.letter p.flows p.reserve p.pairs e h (tag_may p.stage e u.rest (subst (λ (bs : List ℕ). head_fault p.stage bs ≡ 0) sound.bytes sound.head)) sound.value in
    ap (λ (bs : List ℕ). so_far p ++ bs) (sound.bytes ∙ opened e u.rest)
    ∙ sym (append_assoc (so_far p) (bytes_of e) u.rest)
    ∙ ap (λ (bs : List ℕ). bs ++ u.rest) (sym g.0 ∙ ap so_far (sym sound.grown))
    ∙ read_so_far rest (subst Shaped (sym sound.grown) g.1)

ticks_opened : (o : Option ℕ) → ticks_bytes o ≡ reserve_bytes o
unfolding ticks_bytes bytes_of
ticks_opened None = refl
ticks_opened (Some n) = refl

laid_out : (c : Contents) → so_far (part_of Done c) ≡ layout c
unfolding so_far rule_bytes end_bytes bytes_of
laid_out c = ap (λ (bs : List ℕ). rule_bytes (Some c.letter) ++ flat_map flow_bytes c.flows ++ bs ++ flat_map pair_bytes c.pairs ++ end_bytes Done) (ticks_opened c.reserve)

-- an input that is read to its end is a layout
pub ends_laid_out : (input : List ℕ) (c : Contents) → Ends (start input) c → input ≡ layout c
unfolding so_far rule_bytes ticks_bytes end_bytes
ends_laid_out input c ends = read_so_far ends.1 (refl, refl, refl, refl) ∙ append-nil (so_far (part_of Done c)) ∙ laid_out c
