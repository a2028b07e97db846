use Rattle.std.proofs.Common.{◌≡◌, ◌≤◌, ◌+◌, ℕ, slice_index}
use Rattle.weight_bounds.specs.Rows.{AddsTimes}
use Rattle.weight_bounds.proofs.numbers.add_times.Given as goal

abbrev pub invariant-loop-i : goal.invariant-loop-i
invariant-loop-i l = record {
  adds : AddsTimes l.by l.from l.i l.fn.target l.target l.c l.row;
  above : (j : ℕ) → l.by + l.i ≤ j → slice_index l.target j ≡ slice_index l.fn.target j;
}
