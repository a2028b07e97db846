use Rattle.std.proofs.Common.{take}
use Rattle.joint_finder.specs.Crossings.{Adds, MeetsOne}
use Rattle.joint_finder.proofs.crossings.add_crossings.Given as goal

abbrev pub invariant-loop-other : goal.invariant-loop-other
invariant-loop-other l = Adds (MeetsOne l.order l.wall (take l.other-index l.later)) l.initial.points.items l.points.items
