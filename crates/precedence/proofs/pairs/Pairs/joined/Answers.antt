-- Why `Pairs::joined` meets its contract. Assumes nothing.
use Rattle.std.proofs.Common.{arith}
use Rattle.precedence.proofs.Paired.{table_length, table_push}
use Rattle.precedence.proofs.pairs.Pairs.joined.Goals as goal

pub listed : goal.listed
listed c = omega (arith, table_length c.args.self.now.later _ c.args.self.now.agree)

pub returns : goal.returns
returns c = table_push c.args.self.now.later _ c.args.self.now.agree c.args.pair c.with.result _ c.requires.0 c.requires.1 c.with.ensures
