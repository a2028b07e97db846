use Rattle.std.proofs.Common.{take}
use Rattle.scattering.specs.Series.{mul}
use Rattle.trunc_series.specs.Shown.{sum_of}
use Rattle.trunc_series.specs.Sums.{StandsFor}
use Rattle.trunc_series.proofs.product.multiply_into.Given as goal

abbrev pub invariant-loop-i : goal.invariant-loop-i
invariant-loop-i l = StandsFor l.rule l.sum (mul l.factor.order (sum_of (take l.i l.terms)) l.factor.terms)
