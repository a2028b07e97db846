use Rattle.std.proofs.Common.{◌≤◌, ◌<◌, ℕ, slice_index}
use Rattle.weight_bounds.specs.Rows.{IsSlow}
use Rattle.weight_bounds.proofs.reach.raise.Given as goal

abbrev pub invariant-loop-i : goal.invariant-loop-i
invariant-loop-i l = record {
  slow : IsSlow l.most;
  old : (j : ℕ) → slice_index l.fn.most j ≤ slice_index l.most j;
  other : (j : ℕ) → j < l.i → slice_index l.other j ≤ slice_index l.most j;
}
