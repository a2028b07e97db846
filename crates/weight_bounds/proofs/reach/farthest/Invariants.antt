use Rattle.std.proofs.Common.{◌≡◌, ◌≤◌, ◌<◌, ◌+◌, ◌*◌, ◌^◌, ℕ, slice_index}
use Rattle.weight_bounds.proofs.reach.farthest.Given as goal

abbrev pub invariant-loop-i : goal.invariant-loop-i
invariant-loop-i l = record {
  slow : l.most ≤ 2 ^ 31 * l.e;
  own : slice_index l.reach l.e ≤ l.most;
  sums : (a b : ℕ) → 1 ≤ a → a < l.i → a + b ≡ l.e → slice_index l.reach a + slice_index l.reach b ≤ l.most;
}
