use Rattle.std.proofs.Common.{take}
use Rattle.joint_finder.specs.Crossings.{Adds}
use Rattle.joint_finder.specs.Strands.{MeetsAny}
use Rattle.joint_finder.proofs.facing.add_pairs.Given as goal

abbrev pub invariant-loop-wall : goal.invariant-loop-wall
invariant-loop-wall l = Adds (MeetsAny l.order (take l.wall-index l.first) l.second) l.initial.points.items l.points.items
