use Rattle.std.proofs.Common.{◌≡◌, ◌<◌, ◌+◌, ◌-◌, ◌*◌, ℕ, suc, [], length, slice_index_or}
use Rattle.weight_bounds.specs.Masses.{BoundsByDegree}
use Rattle.weight_bounds.specs.Rows.{powered}
use Rattle.weight_bounds.proofs.table.powers_of.Given as goal

abbrev pub invariant-loop-from : goal.invariant-loop-from
invariant-loop-from l = record {
  from : l.from ≡ (length l.powers.items + 1) * l.least;
  next : (v : ℕ → ℕ) → BoundsByDegree l.order l.masses v → BoundsByDegree l.order l.power (powered v (length l.powers.items + 1));
  rows : (v : ℕ → ℕ) (r : ℕ) → BoundsByDegree l.order l.masses v → r < length l.powers.items → BoundsByDegree l.order (slice_index_or l.powers.items r []) (powered v (suc r));
}

abbrev pub decreases-loop-from : goal.decreases-loop-from
decreases-loop-from l = l.order + 1 - l.from
