use Rattle.std.proofs.Common.{◌≡◌, ◌<◌, ℕ, length, slice_index}
use Rattle.weight_bounds.specs.Masses.{IsBound, BoundsByDegree}
use Rattle.weight_bounds.specs.Rows.{convolved}
use Rattle.weight_bounds.proofs.table.multiplied.Given as goal

abbrev pub invariant-loop-i : goal.invariant-loop-i
invariant-loop-i l = record {
  length : length l.product ≡ 25;
  masses : (v w : ℕ → ℕ) → BoundsByDegree l.order l.masses v → BoundsByDegree l.order l.others w → (j : ℕ) → j < l.i → IsBound (slice_index l.product j) (convolved v w j);
}
