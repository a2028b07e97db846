use Rattle.std.proofs.Common.{take}
use Rattle.scattering.specs.Series.{rest}
use Rattle.trunc_series.specs.Shown.{sum_of}
use Rattle.scatter_diagram.specs.Degrees.{IsLeastDegree}
use Rattle.scatter_diagram.proofs.wall.least_degree_of.Given as goal

abbrev pub invariant-loop-t : goal.invariant-loop-t
invariant-loop-t l = IsLeastDegree (rest (sum_of (take l.t-index l.terms))) l.least
