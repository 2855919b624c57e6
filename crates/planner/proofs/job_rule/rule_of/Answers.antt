-- Why `rule_of` meets its contract: no pair is refused, and the layers lie as they should. Assumes nothing.
use Rattle.std.proofs.Common.{◌≡◌, ℕ, List, [], length, sym, ap, ◌∙◌, ap₂, arith}
use Rattle.chip.specs.declared.ticks.Ticks.{Ticks}
use Rattle.job.specs.Jobs.{contents}
use Rattle.rule.specs.Meaning.{Meaning}
use Rattle.precedence.specs.declared.pair.Pair.{Pair}
use Rattle.reserve.specs.declared.reserve.Reserve.{Reserve}
use Rattle.any_rule.specs.declared.any_rule.AnyRule.{AnyRule}
use Rattle.any_rule.specs.AnyRules.{meaning_any, meaning_by}
use Rattle.layout.proofs.Laying.{few_pairs}
use Rattle.planner.specs.JobRules.{offers, taken}
use Rattle.planner.proofs.Offered.{offered, letter_flows, judged_job}
use Rattle.planner.proofs.job_rule.rule_of.Goals as goal

pub returns : goal.returns
returns c =
    let j = contents c.args.job in
    let below : c.with_pairs.result.rule ≡ c.new.result = c.with_pairs.ensures.below ∙ c.new-rule-2.ensures.0 in
    let named : meaning_any c.new-rule.result ≡ meaning_by j.letter j.flows = c.new-rule.ensures ∙ ap₂ meaning_by c.letter.ensures c.into_sheet.ensures in
    let rule : meaning_any c.with_pairs.result.rule.rule ≡ meaning_by j.letter j.flows =
    ap (λ (r : Reserve AnyRule). meaning_any r.rule) below ∙ ap meaning_any c.new.ensures.0 ∙ named
    in
    let flows : (meaning_any c.new-rule-2.result.rule.rule).flows ≡ length j.flows =
    ap (λ (r : Reserve AnyRule). (meaning_any r.rule).flows) (sym c.with_pairs.ensures.below) ∙ ap (λ (m : Meaning). m.flows) rule ∙ letter_flows j.letter j.flows
    in
    judged_job j c.with_pairs.result
    (c.with_pairs.ensures.held
    ∙ ap₂ (λ (n : ℕ) (held : List Pair). taken n held (offers c.numbered_pairs-pairs.result)) flows c.new-rule-2.ensures.1
    ∙ ap (taken (length j.flows) []) c.numbered_pairs-pairs.ensures
    ∙ offered j.flows [] j.pairs c.args.job.known (omega (arith, few_pairs c.args.job)))
    (ap (λ (r : Reserve AnyRule). r.ticks.count) below ∙ ap (λ (t : Ticks). t.count) c.new.ensures.1 ∙ c.reserve_of-reserve.ensures)
    rule
