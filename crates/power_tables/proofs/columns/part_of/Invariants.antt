use Rattle.trunc_series.specs.Sums.{AreKeptValues}
use Rattle.power_tables.proofs.ColumnLists.{ColumnsTo}
use Rattle.power_tables.proofs.columns.part_of.Given as goal

abbrev pub invariant-loop-r : goal.invariant-loop-r
invariant-loop-r l = record {
  columns : ColumnsTo l.rule l.lists l.keys.items l.first.items l.higher.items l.r;
  found : AreKeptValues l.rule l.found;
}
