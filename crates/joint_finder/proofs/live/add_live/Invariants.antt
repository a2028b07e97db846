use Rattle.std.proofs.Common.{List, take, ◌++◌}
use Rattle.scattering.specs.Wall.{Wall}
use Rattle.scatter_diagram.specs.Shown.{walls_of}
use Rattle.joint_finder.specs.Live.{AreLive}
use Rattle.joint_finder.proofs.live.add_live.Given as goal

abbrev pub invariant-loop-w : goal.invariant-loop-w
invariant-loop-w l = (seen : List Wall) → AreLive l.initial.live.items seen → AreLive l.live.items (seen ++ walls_of (take l.w-index l.walls))
