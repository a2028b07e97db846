use Rattle.std.proofs.Common.{[], take}
use Rattle.joint_finder.specs.Crossings.{Adds}
use Rattle.joint_finder.specs.Strands.{MeetsRow}
use Rattle.joint_finder.proofs.facing.row.Given as goal

abbrev pub invariant-loop-t : goal.invariant-loop-t
invariant-loop-t l = Adds (MeetsRow l.order l.s (take l.t-index l.others)) [] l.points.items
