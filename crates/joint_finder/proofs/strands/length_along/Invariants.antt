use Rattle.std.proofs.Common.{take}
use Rattle.joint_finder.specs.Strands.{AreInside}
use Rattle.joint_finder.proofs.strands.length_along.Given as goal

abbrev pub invariant-loop-i : goal.invariant-loop-i
invariant-loop-i l = AreInside l.line (take l.i l.walls)
