use Rattle.std.proofs.Common.{◌≡◌, ◌<◌, ℕ, length, []}
use Rattle.wall_auto.specs.ByDegree.{part}
use Rattle.wall_auto.proofs.by_degree.clear_parts.Given as goal

abbrev pub invariant-loop-at : goal.invariant-loop-at
invariant-loop-at l = record {
  order : length l.parts ≡ length l.fn.parts;
  none : (e : ℕ) → e < l.at → part l.parts e ≡ [];
}
