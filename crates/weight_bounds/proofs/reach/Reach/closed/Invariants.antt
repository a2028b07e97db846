use Rattle.std.proofs.Common.{◌≡◌, ◌≤◌, ◌<◌, ◌+◌, ℕ, length, slice_index}
use Rattle.weight_bounds.specs.Rows.{IsSlow}
use Rattle.weight_bounds.proofs.reach.Reach.closed.Given as goal

abbrev pub invariant-loop-e : goal.invariant-loop-e
invariant-loop-e l = record {
  length : length l.reach ≡ 25;
  slow : IsSlow l.reach;
  least : (j : ℕ) → slice_index l.self.most j ≤ slice_index l.reach j;
  closed : (i j : ℕ) → i + j < l.e → slice_index l.reach i + slice_index l.reach j ≤ slice_index l.reach (i + j);
}
