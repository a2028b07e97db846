use Rattle.std.proofs.Common.{[]}
use Rattle.joint_finder.specs.Crossings.{Adds}
use Rattle.joint_finder.specs.Strands.{IsMetBelow}
use Rattle.joint_finder.proofs.new_crossings.new_crossings.Given as goal

abbrev pub invariant-loop-low : goal.invariant-loop-low
invariant-loop-low g l = Adds (IsMetBelow l.order l.low l.live) [] l.points.items
