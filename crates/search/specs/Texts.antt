-- How an outcome is told in words. Assumes nothing.
use Rattle.std.specs.Prelude.{ℕ, List, codes}
use Rattle.search.specs.declared.tables.Outcome.{Outcome}
use Rattle.search.specs.declared.tables.Outcome.TheVariants.{Open, Order, NoOrder}

abbrev pub outcome_text : Outcome → List ℕ
outcome_text Open = codes "open"
outcome_text Order = codes "order"
outcome_text NoOrder = codes "no order"
