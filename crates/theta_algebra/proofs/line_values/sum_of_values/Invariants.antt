use Rattle.std.proofs.Common.{◌≡◌, take}
use Rattle.trunc_series.specs.Shown.{exp_of}
use Rattle.trunc_series.specs.Sums.{StandsFor}
use Rattle.trunc_series.specs.declared.arithmetic.Arithmetic.TheVariants.{Wrapping}
use Rattle.theta_algebra.specs.LineValues.{traced_sum}
use Rattle.theta_algebra.proofs.line_values.sum_of_values.Given as goal

abbrev pub invariant-loop-tail : goal.invariant-loop-tail
invariant-loop-tail l = record {
  same : l.tracer ≡ l.initial.tracer;
  stands : StandsFor Wrapping l.sum (traced_sum l.initial.tracer.walls l.initial.tracer.limit (exp_of l.m) (take l.tail-index l.tails));
}
