use Rattle.std.proofs.Common.{◌≡◌, ◌≤◌, ◌<◌, ◌+◌, ◌-◌, ◌*◌, ℕ, suc, length, slice_index}
use Rattle.degree_theory.specs.Parts.{multichoose}
use Rattle.weight_bounds.specs.Masses.{IsBound}
use Rattle.weight_bounds.specs.Rows.{ArePowersOf, sum_below}
use Rattle.weight_bounds.proofs.table.weighted.Given as goal

abbrev pub invariant-powers : goal.invariant-powers
invariant-powers l = record {
  within : l.r ≤ length l.powers;
  length : length l.row ≡ 25;
  from : l.from ≡ (l.r + 1) * l.least;
  near : l.from ≤ 24 + l.least;
  choice : IsBound l.c (multichoose l.n l.r);
  low : (i : ℕ) → i < l.least → slice_index l.row i ≡ 0;
  masses : (m : ℕ → ℕ → ℕ) (i : ℕ) → ArePowersOf l.top l.least l.powers m → i ≤ l.top → IsBound (slice_index l.row i) (sum_below l.r (λ r. multichoose l.n (suc r) * m (suc r) i));
}

abbrev pub decreases-powers : goal.decreases-powers
decreases-powers l = length l.powers - l.r
