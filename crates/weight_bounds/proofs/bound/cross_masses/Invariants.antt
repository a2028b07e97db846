use Rattle.std.proofs.Common.{◌≡◌, ◌≤◌, ℕ, length, slice_index}
use Rattle.scattering.specs.Series.{Exp, Sum}
use Rattle.weight_bounds.specs.Masses.{IsBound, BoundsByDegree}
use Rattle.weight_bounds.specs.Tables.{IsMassTable}
use Rattle.weight_bounds.proofs.Crossed.{so_far}
use Rattle.weight_bounds.proofs.bound.cross_masses.Given as goal

abbrev pub invariant-loop-i : goal.invariant-loop-i
invariant-loop-i l = record {
  length : length l.masses ≡ 25;
  bounds : (d : Exp) (f : Sum) (v : ℕ → ℕ) (is : IsMassTable l.order d f l.table) → BoundsByDegree l.order l.fn.masses v → (e : ℕ) → e ≤ l.order → IsBound (slice_index l.masses e)
      (so_far l.order d f l.table is l.reach v l.i e);
}
