use Rattle.std.proofs.Common.{◌-◌, ◌*◌, ℕ}
use Rattle.weight_bounds.specs.Masses.{IsBound, BoundsByDegree}
use Rattle.weight_bounds.specs.Rows.{sum_below}
use Rattle.weight_bounds.proofs.table.mass_of_product.Given as goal

abbrev pub invariant-loop-j : goal.invariant-loop-j
invariant-loop-j l = (v w : ℕ → ℕ) → BoundsByDegree l.i l.masses v → BoundsByDegree l.i l.others w → IsBound l.total (sum_below l.j (λ n. v (l.i - n) * w n))
