use Rattle.std.proofs.Common.{◌≡◌, ◌≤◌, ◌+◌, ◌^◌, drop, min}
use Rattle.trunc_series.specs.Shown.{sum_of}
use Rattle.wall_auto.specs.Gains.{size}
use Rattle.wall_auto.proofs.by_degree.mass_with.Given as goal

abbrev pub invariant-loop-t : goal.invariant-loop-t
invariant-loop-t l = record {
  kept : l.mass ≤ 2 ^ 126 + 1;
  sum : min (l.mass + size (sum_of (drop l.t-index l.terms))) (2 ^ 126 + 1) ≡ min (l.fn.mass + size (sum_of l.terms)) (2 ^ 126 + 1);
}
