-- One field on: a sound one leads further, a faulty one is where reading is refused. Assumes nothing.
use Rattle.std.proofs.Common.{◌≡◌, ℕ, true, false, eqb, List, get_or, sym, refl, ap, ◌∙◌, subst, arith}
use Rattle.chip.specs.Refusals.{number_of}
use Rattle.chip.specs.declared.parameters.FlowParameters.{FlowParameters}
use Rattle.layout.specs.declared.entry.Entry.{Entry}
use Rattle.layout.specs.declared.entry.Entry.TheVariants as entry
use Rattle.layout.specs.declared.entry.Stage.{Stage}
use Rattle.layout.specs.declared.entry.Stage.TheVariants.{Rule, FirstFlow, Flows, Pairs, Done}
use Rattle.layout.specs.declared.fault.Fault.{Fault}
use Rattle.layout.specs.Cursor.{Peeked, Misheaded, Cursor}
use Rattle.layout.specs.Faults.{Part, with_entry, allows, open_fault, head_fault, value_fault}
use Rattle.layout.specs.Layout.{tag_of}
use Rattle.layout.specs.Progress.{standing, Refuses}
use Rattle.layout.specs.Reading.{State, Reads, here, next, in_head, in_value}
use Rattle.std.proofs.lemmas.Bool.Decides.{nat_tests}

-- where a head is sound, its tag may come
pub allowed_tag : (stage : Stage) (rest : List ℕ) → open_fault stage rest ≡ 0 → allows stage (get_or rest 0 0) ≡ true
allowed_tag stage rest e = grind (arith, nat_tests)

pub peeked_tag : {stage : Stage} {before after : Cursor} {e : Entry} → Peeked stage before after e → allows stage (tag_of e) ≡ true
peeked_tag {stage} {before} p =
    subst (λ (tag : ℕ). allows stage tag ≡ true) (ap (λ (bs : List ℕ). get_or bs 0 0) p.field.next) (allowed_tag stage before.left p.sound)

-- a field that is no flow has another tag
pub no_flow : (e : Entry) → ((p : FlowParameters) → e ≡ entry.Flow p → ⊥) → eqb (tag_of e) 0x02 ≡ false
no_flow (entry.Rule byte) n = refl
no_flow (entry.Flow p) n = absurd (n p refl)
no_flow (entry.Reserve ticks) n = refl
no_flow (entry.Pair q) n = refl
no_flow entry.End n = refl

-- before the end field, a sound head has no fault
pub open_head : (stage : Stage) (rest : List ℕ) → open_fault stage rest ≡ 0 → head_fault stage rest ≡ 0
open_head Rule rest e = e
open_head FirstFlow rest e = e
open_head Flows rest e = e
open_head Pairs rest e = e
open_head Done rest e = let clash = allowed_tag Done rest e in let z : ◌≡◌ {A = ℕ} 0 1 = cc in absurd (omega arith)

module _ (part : Part) (before : Cursor) where
  -- a field with neither fault leads one field further
  pub one_field : (after : Cursor) (e : Entry) → Peeked part.stage before after e → value_fault part e ≡ 0 → Reads (standing part before) (standing (with_entry part e) after)
  one_field after e p v =
      next e (standing (with_entry part e) after)
      (record { bytes = p.field.next; head = open_head part.stage before.left p.sound; value = v; grown = refl; moved = p.field.moved })
      here

  -- a faulty head
  pub bad_head : (f : Fault) → head_fault part.stage before.left ≡ open_fault part.stage before.left → Misheaded part.stage before f → Refuses (standing part before) f
  bad_head f same m = record { state = standing part before; reached = here; fault = in_head (same ∙ sym m.0); place = sym m.1 }

  -- a field whose head is sound, and what it says is not
  pub bad_value : (after : Cursor) (e : Entry) (f : Fault) → Peeked part.stage before after e → number_of f.refusal ≡ value_fault part e → f.byte ≡ after.field → Refuses (standing part before) f
  bad_value after e f p n b = record {
    state = standing part before;
    reached = here;
    fault = in_value e after.left p.field.next (open_head part.stage before.left p.sound) (sym n);
    place = sym (b ∙ p.field.field);
  }

-- one reading after another
pub then_reads : {s t u : State} → Reads s t → Reads t u → Reads s u
then_reads here more = more
then_reads (next e t sound rest) more = next e t sound (then_reads rest more)

pub then_refuses : {s t : State} {f : Fault} → Reads s t → Refuses t f → Refuses s f
then_refuses more r = record { state = r.state; reached = then_reads more r.reached; fault = r.fault; place = r.place }
