use Rattle.std.proofs.Common.{◌≡◌, ℕ, ◌<◌, length, get_or}
use Rattle.scatter_diagram.proofs.runs.positions.Given as goal

abbrev pub invariant-loop-i : goal.invariant-loop-i
invariant-loop-i l = record {
  many : length l.positions.items ≡ length l.places;
  within : (k : ℕ) → k < l.i → get_or l.positions.items (get_or l.places k 0) 0 < l.i;
  found : (k : ℕ) → k < l.i → get_or l.places (get_or l.positions.items (get_or l.places k 0) 0) 0 ≡ get_or l.places k 0;
}
