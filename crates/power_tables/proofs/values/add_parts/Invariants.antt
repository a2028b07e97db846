use Rattle.std.proofs.Common.{◌≡◌, ℤ, length}
use Rattle.power_tables.specs.Rows.{HasFactors}
use Rattle.power_tables.specs.Entries.{AreCombinedParts}
use Rattle.power_tables.proofs.values.add_parts.Given as goal

abbrev pub invariant-loop-j : goal.invariant-loop-j
invariant-loop-j l = record {
  room : length l.values.items ≡ length l.fn.values.items;
  values : (n : ℤ) → HasFactors l.rule n l.row → AreCombinedParts l.rule n l.parts l.from l.fn.values.items → AreCombinedParts l.rule n l.parts l.j l.values.items;
}
