-- Why `Search::advance` meets its contract. Assumes nothing.
use Rattle.std.proofs.Common.{sym, refl}
use Rattle.search.specs.Tables.{standing}
use Rattle.search.proofs.Advanced.{steps_stay, standing_ended}
use Rattle.search.proofs.Answered.{refused_after}
use Rattle.search.proofs.searching.Search.advance.Goals as goal

pub returns-in_default : goal.returns-in_default
returns-in_default g c =
    let w = c.args.self.now.walk in
    record {
      reply = refused_after w c.args.placings c.if-placings-eq0.false c.in_default.not-Open;
      held = refl;
      walked = λ v. v;
      stands = λ v. sym (steps_stay (g.R.Rule.meaning c.args.self.now.rule) c.args.placings (standing w) (standing_ended w w.stage c.in_default.not-Open));
    }
