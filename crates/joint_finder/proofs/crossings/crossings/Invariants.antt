use Rattle.joint_finder.proofs.crossings.crossings.Given as goal
use Rattle.joint_finder.specs.Crossings.{Met}

abbrev pub invariant-loop-i : goal.invariant-loop-i
invariant-loop-i l = Met l.order l.i l.live l.points.items
