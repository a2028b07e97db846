use Rattle.std.proofs.Common.{◌≡◌, drop, ◌++◌}
use Rattle.scattering.specs.Series.{minus}
use Rattle.trunc_series.specs.Shown.{sum_of}
use Rattle.trunc_series.proofs.power.negated.Given as goal

abbrev pub invariant-loop-t : goal.invariant-loop-t
invariant-loop-t l = sum_of l.out.items ++ minus (sum_of (drop l.t-index l.terms)) ≡ minus (sum_of l.terms)
