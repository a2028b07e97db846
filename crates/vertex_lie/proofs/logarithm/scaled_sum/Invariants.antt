use Rattle.scattering.specs.Series.{pow}
use Rattle.trunc_series.specs.declared.arithmetic.Arithmetic.TheVariants.{Wrapping}
use Rattle.trunc_series.specs.Shown.{sum_of}
use Rattle.trunc_series.specs.Reduced.{IsKeptAs}
use Rattle.vertex_lie.specs.Logarithm.{scaled_log}
use Rattle.vertex_lie.proofs.logarithm.scaled_sum.Given as goal

abbrev pub invariant-loop-i : goal.invariant-loop-i
invariant-loop-i l = record {
  power : IsKeptAs Wrapping l.order (sum_of l.power.items) (pow l.order (sum_of l.g) l.i);
  total : IsKeptAs Wrapping l.order (sum_of l.total.items) (scaled_log l.order (sum_of l.g) l.i);
}
