use Rattle.std.proofs.Common.{◌≡◌, ◌+◌, length}
use Rattle.trunc_series.specs.Shown.{sum_of}
use Rattle.power_tables.specs.Made.{AreLinearParts}
use Rattle.power_tables.proofs.making.linear_parts.Given as goal

abbrev pub invariant-loop-degree : goal.invariant-loop-degree
invariant-loop-degree l = record {
  parts : AreLinearParts (sum_of l.u) l.least l.parts.items;
  count : l.least + length l.parts.items ≡ l.degree;
}
