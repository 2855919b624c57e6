-- Reading is exact: what the code reads is the layout of its job, each layout is read, and no input has two answers.
-- Assumes nothing.
use Rattle.std.proofs.Common.{◌≡◌, ℕ, ◌≤◌, List, [], Ok, Err, Result, sym, refl, ap, ◌∙◌, subst, arith, MatchResult}
use Rattle.chip.specs.declared.refusal.Refusal.{Refusal}
use Rattle.chip.specs.Refusals.{number_of}
use Rattle.job.specs.declared.job.Job.{Job}
use Rattle.job.specs.Jobs.{Contents, contents}
use Rattle.layout.specs.declared.entry.Stage.{Stage}
use Rattle.layout.specs.declared.entry.Stage.TheVariants.{Done}
use Rattle.layout.specs.declared.fault.Fault.{Fault}
use Rattle.layout.specs.Faults.{Part, blank, head_fault}
use Rattle.layout.specs.Layout.{layout}
use Rattle.layout.specs.Progress.{part_of, Refuses, Ends}
use Rattle.layout.specs.Reading.{State, Reads, Faulty, in_head, in_value, start, FirstFault, accepted, refused, ReadExactly, answer_of}
use Rattle.layout.proofs.Layouts.{Leads, layout_read}
use Rattle.layout.proofs.Single.{Stuck, only_one, stuck_at_fault, one_fault, stuck_at_end}
use Rattle.layout.proofs.Written.{ends_laid_out}

-- every refusal has a number
pub numbered : (e : Refusal) → 1 ≤ number_of e
numbered e = grind arith

same_contents : (c d : Contents) → part_of Done c ≡ part_of Done d → c ≡ d
same_contents c d e =
    let l : c.letter ≡ d.letter = cc (ap (λ (p : Part). p.letter) e) in
    λ i. record { letter = l i; flows = (e i).flows; reserve = (e i).reserve; pairs = (e i).pairs }

-- the end of a sheet has no fault
no_fault_at_end : {s : State} {n : ℕ} → s.part.stage ≡ Done → s.rest ≡ [] → Faulty s n → 1 ≤ n → ⊥
no_fault_at_end {s} {n} d e (in_head h) real = let z : n ≡ 0 = sym h ∙ ap (λ (stage : Stage). head_fault stage s.rest) d ∙ ap (head_fault Done) e in omega arith
no_fault_at_end {s} {n} d e (in_value f rest bytes head v) real = let z : ◌≡◌ {A = ℕ} 0 1 = cc (sym e ∙ bytes) in omega arith

-- an input that is the layout of a job is read as it
job_state : Contents → ℕ → State
job_state c n = record { part = part_of Done c; at = n; rest = [] }

read_job : (input : List ℕ) (j : Job) → input ≡ layout (contents j) → (n : ℕ) × Reads (start input) (job_state (contents j) n)
unfolding job_state
read_job input j e = subst (λ (bs : List ℕ). Leads blank 0 bs (part_of Done (contents j)) []) (sym e) (layout_read j)

stuck_job : (c : Contents) (n : ℕ) → Stuck (job_state c n)
unfolding job_state
stuck_job c n = stuck_at_end refl

job_part : (c : Contents) (n : ℕ) → (job_state c n).part ≡ part_of Done c
unfolding job_state
job_part c n = refl

no_job_fault : (c : Contents) (n m : ℕ) → Faulty (job_state c n) m → 1 ≤ m → ⊥
unfolding job_state
no_job_fault c n m f real = no_fault_at_end refl refl f real

-- whoever refuses an input, it is the layout of no job
refuses_none : (input : List ℕ) (s : State) (n : ℕ) → Reads (start input) s → Faulty s n → 1 ≤ n → (j : Job) → input ≡ layout (contents j) → ⊥
refuses_none input s n reached f real j e =
    let r = read_job input j e in
    let same = only_one reached r.1 (stuck_at_fault f real) (stuck_job (contents j) r.0) in
    no_job_fault (contents j) r.0 n (subst (λ (x : State). Faulty x n) same f) real

accepted_is : {c d : Contents} → accepted c ≡ accepted d → c ≡ d
accepted_is e = cc

not_both : {X : Type 0} {c : Contents} {n b : ℕ} → accepted c ≡ refused n b → X
not_both e = let z : ◌≡◌ {A = ℕ} 0 1 = cc in absurd (omega arith)

-- all that is read is a job
module _ (input : List ℕ) (j : Job) (ends : Ends (start input) (contents j)) where
  read_same : (k : Job) → input ≡ layout (contents k) → contents j ≡ contents k
  read_same k e =
      let r = read_job input k e in
      let same = only_one ends.1 r.1 (stuck_at_end refl) (stuck_job (contents k) r.0) in
      same_contents (contents j) (contents k) (ap (λ (s : State). s.part) same ∙ job_part (contents k) r.0)

  job_exact : ReadExactly input (accepted (contents j))
  job_exact = record {
    job = λ k. (λ e. ap accepted (read_same k e), λ a. ends_laid_out input (contents j) ends ∙ ap layout (accepted_is a));
    fault = λ n b. (
      λ f. absurd (refuses_none input f.state n f.reached f.fault f.real j (ends_laid_out input (contents j) ends)),
      λ a. not_both a,
    );
  }

-- all that is refused has its first fault there
module _ (input : List ℕ) (f : Fault) (r : Refuses (start input) f) where
  this_fault : FirstFault input (number_of f.refusal) f.byte
  this_fault = record { state = r.state; reached = r.reached; fault = r.fault; real = numbered f.refusal; place = r.place }

  same_fault : (n b : ℕ) → FirstFault input n b → (number_of f.refusal ≡ n) × (f.byte ≡ b)
  same_fault n b g =
      let real = numbered f.refusal in
      let same = only_one r.reached g.reached (stuck_at_fault r.fault real) (stuck_at_fault g.fault g.real) in
      (one_fault (subst (λ (s : State). Faulty s (number_of f.refusal)) same r.fault) g.fault real g.real, sym r.place ∙ ap (λ (s : State). s.at) same ∙ g.place)

  fault_exact : ReadExactly input (refused (number_of f.refusal) f.byte)
  fault_exact = record {
    job = λ k. (
      λ e. absurd (refuses_none input r.state (number_of f.refusal) r.reached r.fault (numbered f.refusal) k e),
      λ a. not_both (sym a),
    );
    fault = λ n b. (
      λ g. let e = same_fault n b g in ap (λ (m : ℕ). refused m f.byte) e.0 ∙ ap (refused n) e.1,
      λ a.
          let e : number_of f.refusal ≡ n = cc in
          let d : f.byte ≡ b = cc in
          subst (λ (m : ℕ). FirstFault input m b) e (subst (λ (m : ℕ). FirstFault input (number_of f.refusal) m) d this_fault),
    );
  }

pub exact : (input : List ℕ) (r : Result Job Fault) → MatchResult r (λ j. Ends (start input) (contents j)) (λ f. Refuses (start input) f) → ReadExactly input (answer_of r)
exact input (Ok j) h = job_exact input j h
exact input (Err f) h = fault_exact input f h
