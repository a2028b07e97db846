use Rattle.std.proofs.Common.{◌≡◌, ◌≤◌, ◌<◌, ℕ, suc, length}
use Rattle.trunc_series.specs.Sums.{AddsRow}
use Rattle.power_tables.specs.Tables.{keys_at}
use Rattle.wall_auto.specs.ByDegree.{part}
use Rattle.wall_auto.specs.Gains.{row_numbers}
use Rattle.wall_auto.proofs.by_degree.add_rows.Given as goal

abbrev pub invariant-loop-degree : goal.invariant-loop-degree
invariant-loop-degree l = record {
  started : l.table.least ≤ l.degree;
  order : length l.above ≡ length l.fn.above;
  low : (j : ℕ) → suc j < l.table.least → part l.above j ≡ part l.fn.above j;
  high : (j : ℕ) → l.degree ≤ suc j → part l.above j ≡ part l.fn.above j;
  rows : (j : ℕ) → j < length l.fn.above → l.table.least ≤ suc j → suc j < l.degree → AddsRow l.table.rule (part l.fn.above j) (part l.above j) l.t (keys_at l.table (suc j)) (row_numbers l.table l.values l.place (suc j));
}
