-- Why `Traffic::settle` meets its contract. Assumes nothing.
use Rattle.std.proofs.Common.{ℕ, List, reverse, length, get_or, take, sym, ◌∙◌, arith}
use Rattle.chip.specs.declared.parameters.FlowParameters.{FlowParameters}
use Rattle.rule.proofs.Distinct.{distinct_parts}
use Rattle.latency.specs.Chips.{chip}
use Rattle.latency.specs.declared.settled.Settled.{Settled}
use Rattle.interference.proofs.Asked.{flow_more}
use Rattle.latency.specs.ChipsLemmas.{chip_few}
use Rattle.interference.proofs.Pass.{place_asked}
use Rattle.latency.proofs.Settles.{settling_ready, settling_done, settling_ends, settling_more, marks_reverse, reversed_asked}
use Rattle.latency.proofs.traffic.Traffic.+settle.Goals as goal

pub returns-then-k-list : goal.returns-then-k-list
returns-then-k-list t c = settling_done (chip c.args.self.now) c.args.list.now (chip_few c.args.self.now) c.requires.0 c.args.k c.args.settled.now c.requires.1 c.if-k-list.true

pub under-requires : goal.under-requires
under-requires t c =
    let fs : List FlowParameters = chip c.args.self.now in (
      (distinct_parts (length fs) (get_or c.args.list.now c.args.k 0) (take c.args.k c.args.list.now) (place_asked fs c.args.list.now c.requires.0 c.args.k c.if-k-list.false)).0,
      settling_ready fs c.args.list.now (chip_few c.args.self.now) c.requires.0 c.args.k c.args.settled.now c.requires.1,
    )

pub place-requires : goal.place-requires
place-requires t c =
    let fs : List FlowParameters = chip c.args.self.now in (
      flow_more (length fs) 20 (get_or c.args.list.now c.args.k 0) (chip_few c.args.self.now) (distinct_parts (length fs) (get_or c.args.list.now c.args.k 0) (take c.args.k c.args.list.now) (place_asked fs c.args.list.now c.requires.0 c.args.k c.if-k-list.false)).0,
      c.in-Some.ensures.few,
    )

pub settle-requires : goal.settle-requires
settle-requires t c =
    let fs : List FlowParameters = chip c.args.self.now in
    let list : List ℕ = c.args.list.now in
    let s : Settled = c.args.settled.now in
    let asked = reversed_asked fs list (chip_few c.args.self.now) c.requires.0 c.args.k s c.requires.1 c.if-k-list.false in (
      omega (arith, c.if-k-list.false),
      (
        c.requires.0,
        settling_more fs list (chip_few c.args.self.now) c.requires.0 c.args.k s c.requires.1 c.if-k-list.false c.in-Some.r
            (c.in-Some.ensures.value (reverse (take c.args.k list)) asked (c.requires.1.above ∙ sym (marks_reverse (take c.args.k list))) c.requires.1.holds)
            c.place.new.self c.place.ensures.above c.place.ensures.over c.place.ensures.bounds c.place.ensures.told,
      ),
    )

pub returns-in_default : goal.returns-in_default
returns-in_default t c =
    let fs : List FlowParameters = chip c.args.self.now in
    let list : List ℕ = c.args.list.now in
    let s : Settled = c.args.settled.now in
    let asked = reversed_asked fs list (chip_few c.args.self.now) c.requires.0 c.args.k s c.requires.1 c.if-k-list.false in
    settling_ends fs list (chip_few c.args.self.now) c.requires.0 c.args.k s c.requires.1 c.if-k-list.false
    (c.in_default.ensures.value (reverse (take c.args.k list)) asked (c.requires.1.above ∙ sym (marks_reverse (take c.args.k list))) c.requires.1.holds)
