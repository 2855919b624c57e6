-- Why `digit_of` meets its contract. Assumes nothing.
use Rattle.std.proofs.Common.{◌≡◌, ◌-◌, ◌*◌, ◌%◌, ◌^◌, rules}
use Rattle.rule.specs.FlowSets.{digit_of}
use Rattle.rule.proofs.Digits.{digit_small}
use Rattle.rule.proofs.flow_set.single.digit_of.Goals as goal

pub returns : goal.returns
returns c =
    let value : (1 * 2 ^ (c.args.g - 1)) % 2 ^ 32 ≡ digit_of 20 c.args.g = search rules in
    record { value = value; small = rw value (digit_small 20 c.args.g) }
