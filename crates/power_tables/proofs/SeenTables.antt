-- What contracts see of a table, by what it keeps.
use Rattle.std.proofs.Common.{◌≡◌, ◌≤◌, List, [], ◌∷◌, map, length, arith}
use Rattle.scattering.specs.Collections.{Every}
use Rattle.power_tables.specs.declared.table.Part.{Part}
use Rattle.power_tables.specs.Kept.{seen_part}

-- parts without higher powers have one column each
pub one-column : (parts : List Part) → Every (λ p. length p.higher.items ≡ 0) parts → Every (λ p. length p.columns ≤ 1) (map seen_part parts)
one-column [] h = tt
one-column (p ∷ parts) h = (let e = h.0 in omega (arith, e), one-column parts h.1)
