use Rattle.std.proofs.Common.{◌≤◌, take}
use Rattle.scattering.specs.Collections.{Every}
use Rattle.scattering.specs.Series.{degree}
use Rattle.trunc_series.specs.Shown.{sum_of}
use Rattle.power_tables.proofs.making.least_degree.Given as goal

abbrev pub invariant-loop-i : goal.invariant-loop-i
invariant-loop-i l = record {
  positive : 1 ≤ l.least;
  within : l.least ≤ l.most;
  least : Every (λ t. l.least ≤ degree t.0) (sum_of (take l.i l.terms));
}
