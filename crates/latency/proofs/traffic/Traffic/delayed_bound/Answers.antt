-- Why `Traffic::delayed_bound` meets its contract. Assumes nothing.
use Rattle.std.proofs.Common.{ℕ, List, reverse, length, sym, ◌∙◌, arith}
use Rattle.chip.specs.declared.parameters.FlowParameters.{FlowParameters}
use Rattle.rule.specs.Meaning.{leading}
use Rattle.rule.proofs.Distinct.{distinct_parts, distinct_short}
use Rattle.latency.specs.Chips.{chip}
use Rattle.interference.specs.Rules.{meaning_J}
use Rattle.latency.specs.ChipsLemmas.{chip_few}
use Rattle.latency.proofs.Settles.{settling_none, settling_ready, settled_few, settled_short, settled_whole, proper_reverse, marks_reverse}
use Rattle.latency.proofs.traffic.Traffic.delayed_bound.Goals as goal

pub settle-requires : goal.settle-requires
settle-requires c = (
  (distinct_parts (length (chip c.args.self.now)) c.args.f c.args.above.now c.requires).2,
  settling_none (chip c.args.self.now) c.args.above.now c.none-settled.result c.none-settled.ensures.told c.none-settled.ensures.above,
)

pub overflow_cast-settled : goal.overflow_cast-settled
overflow_cast-settled c =
    let fs : List FlowParameters = chip c.args.self.now in
    omega (arith, settled_few fs c.args.f c.args.above.now c.settle.new.settled c.settle.ensures, distinct_short (length fs) c.args.above.now (chip_few c.args.self.now) (distinct_parts (length fs) c.args.f c.args.above.now c.requires).2)

pub returns-then-settled-above : goal.returns-then-settled-above
returns-then-settled-above c = settled_short (chip c.args.self.now) c.args.f c.args.above.now c.settle.new.settled c.settle.ensures c.if-settled-above.true

pub under-requires : goal.under-requires
under-requires c =
    let fs : List FlowParameters = chip c.args.self.now in
    let parts = distinct_parts (length fs) c.args.f c.args.above.now c.requires in
    (parts.0, settling_ready fs c.args.above.now (chip_few c.args.self.now) parts.2 (length (leading (meaning_J fs) _ c.args.above.now)) c.settle.new.settled c.settle.ensures)

pub returns : goal.returns
returns c =
    let fs : List FlowParameters = chip c.args.self.now in
    let above : List ℕ = c.args.above.now in
    let whole = settled_whole fs c.args.f above c.settle.new.settled c.settle.ensures c.if-settled-above.false in
    c.under.ensures.value (reverse above) (proper_reverse (length fs) c.args.f above c.requires) (whole.1 ∙ sym (marks_reverse above)) whole.0 ∙ sym whole.2
