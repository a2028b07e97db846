use Rattle.std.proofs.Common.{◌≡◌, length}
use Rattle.trunc_series.specs.Shown.{sum_of}
use Rattle.trunc_series.specs.LowRows.{AreLowRows}
use Rattle.trunc_series.proofs.low_rows.low_rows.Given as goal

abbrev pub invariant-loop-degree : goal.invariant-loop-degree
invariant-loop-degree l = record {
  each : AreLowRows (sum_of l.terms) 0 l.rows.items;
  count : length l.rows.items ≡ l.degree;
}
