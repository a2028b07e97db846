use Rattle.std.proofs.Common.{◌≡◌, drop, ◌++◌}
use Rattle.trunc_series.specs.Shown.{sum_of}
use Rattle.trunc_series.specs.Reduced.{absolute_sum}
use Rattle.trunc_series.proofs.merge.absolutes.Given as goal

abbrev pub invariant-loop-t : goal.invariant-loop-t
invariant-loop-t l = sum_of l.out.items ++ absolute_sum (sum_of (drop l.t-index l.terms)) ≡ absolute_sum (sum_of l.terms)
