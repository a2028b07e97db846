use Rattle.trunc_series.specs.Sums.{AreKeptValues}
use Rattle.power_tables.proofs.ColumnLists.{Grows}
use Rattle.power_tables.proofs.columns.column_of.Given as goal

abbrev pub invariant-loop-i : goal.invariant-loop-i
invariant-loop-i l = record {
  grows : Grows l.rule l.fn.keys.items l.keys.items l.column.items l.terms l.i;
  found : AreKeptValues l.rule l.found;
}
