use Rattle.std.proofs.Common.{ℕ}
use Rattle.weight_bounds.specs.Masses.{IsBound, BoundsByDegree}
use Rattle.weight_bounds.specs.Rows.{sum_below}
use Rattle.weight_bounds.proofs.bound.total.Given as goal

abbrev pub invariant-loop-i : goal.invariant-loop-i
invariant-loop-i l = (v : ℕ → ℕ) → BoundsByDegree l.order l.masses v → IsBound l.total (sum_below l.i v)
