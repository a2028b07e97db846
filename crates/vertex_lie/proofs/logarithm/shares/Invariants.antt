use Rattle.plane_geom.specs.Shown.{vector_of as direction_of}
use Rattle.vertex_lie.specs.Logarithm.{log_divisor}
use Rattle.vertex_lie.proofs.Divided.{IsBegun}
use Rattle.vertex_lie.proofs.logarithm.shares.Given as goal

abbrev pub invariant-loop-t : goal.invariant-loop-t
invariant-loop-t l = IsBegun (log_divisor (direction_of l.dir)) l.terms l.out.items l.t-index
