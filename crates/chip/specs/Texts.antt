-- What is printed of a router. Assumes nothing.
use Rattle.std.specs.Prelude.{ℕ, List, ◌++◌, codes}
use Rattle.std.specs.Fmt.{decimal}
use Rattle.chip.specs.declared.parameters.Router.{Router}

-- its column and its row, as (2,3)
abbrev pub router_text : Router → List ℕ
router_text r = codes "(" ++ decimal r.column ++ codes "," ++ decimal r.row ++ codes ")"
