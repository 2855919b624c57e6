-- What a caller sees of a table. Assumes nothing.
use Rattle.std.specs.Prelude.{List, ◌++◌, refl}
use Rattle.std.specs.Coded.{Coded, code_by, coded×, coded_list}

-- the items, and what the cells past them hold
pub record Listed (T : Type 0) : Type 0 where
  pub items : List T
  pub spare : List T

-- all cells, those of the items first
abbrev pub cells : {T : Type 0} → Listed T → List T
cells l = l.items ++ l.spare

-- it is stored as the two lists
abbrev pub listed_code : {T : Type 0} → Coded T → Coded (Listed T)
listed_code {T} code =
    code_by (List T × List T) (coded× (coded_list code) (coded_list code)) (λ l. (l.items, l.spare)) (λ p. record { items = p.0; spare = p.1 }) (λ _. refl)
