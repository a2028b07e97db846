use Rattle.std.proofs.Common.{◌≡◌, ◌++◌, List, length}
use Rattle.joint_finder.specs.declared.live.LiveWall.{LiveWall}
use Rattle.joint_finder.specs.Strands.{AreStrands}
use Rattle.joint_finder.proofs.strands.strands.Given as goal

abbrev pub invariant-loop-left : goal.invariant-loop-left
invariant-loop-left l = (seen : List LiveWall) × (seen ++ l.left ≡ l.walls) × AreStrands seen l.strands.items

abbrev pub decreases-loop-left : goal.decreases-loop-left
decreases-loop-left l = length l.left
