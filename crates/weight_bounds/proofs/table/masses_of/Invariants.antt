use Rattle.std.proofs.Common.{◌≡◌, ◌≤◌, ℕ, length, take, slice_index}
use Rattle.weight_bounds.specs.Masses.{IsBound}
use Rattle.weight_bounds.proofs.Terms.{mass_so_far}
use Rattle.weight_bounds.proofs.table.masses_of.Given as goal

abbrev pub invariant-loop-t : goal.invariant-loop-t
invariant-loop-t l = record {
  length : length l.masses ≡ 25;
  masses : (i : ℕ) → i ≤ l.order → IsBound (slice_index l.masses i) (mass_so_far i (take l.t-index l.terms));
}
