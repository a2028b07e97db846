use Rattle.std.proofs.Common.{◌≡◌, ◌∷◌, ℤ, length, take}
use Rattle.power_tables.specs.Kept.{AreKeepable}
use Rattle.power_tables.specs.Rows.{HasFactors, AreCombined}
use Rattle.power_tables.proofs.combining.combine.Given as goal

abbrev pub invariant-loop-r : goal.invariant-loop-r
invariant-loop-r l = record {
  lengths : length l.values.items ≡ length l.part.keys.items;
  keepable : AreKeepable l.rule l.values.items;
  combined : (n : ℤ) → HasFactors l.rule n l.row → AreCombined l.rule n (record { keys = l.part.keys.items; columns = l.part.first.items ∷ take l.r (l.part.higher.items) }) l.values.items;
}
