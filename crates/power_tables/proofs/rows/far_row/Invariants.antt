use Rattle.power_tables.specs.Rows.{IsFullRow}
use Rattle.power_tables.proofs.rows.far_row.Given as goal

abbrev pub invariant-loop-i : goal.invariant-loop-i
invariant-loop-i l = IsFullRow l.family l.i l.row.items
