use Rattle.vertex_lie.specs.Leading.{turn}
use Rattle.vertex_lie.proofs.Divided.{IsBegun}
use Rattle.vertex_lie.proofs.leading_part.quotients.Given as goal

abbrev pub invariant-loop-t : goal.invariant-loop-t
invariant-loop-t l = IsBegun (turn l.axis) l.terms l.out.items l.t-index
