use Rattle.std.proofs.Common.{drop}
use Rattle.scattering.specs.Collections.{Every}
use Rattle.plane_geom.specs.Shown.{point_of}
use Rattle.scatter_diagram.specs.Shown.{wall_of}
use Rattle.wall_auto.specs.Sign.{sign}
use Rattle.vertex_lie.specs.Leading.{axis_of}
use Rattle.local_product.specs.OneSide.{Turns}
use Rattle.local_product.proofs.one_side.all_turn.Given as goal

abbrev pub invariant-loop-h : goal.invariant-loop-h
invariant-loop-h l =
    Every (λ h. Turns (point_of l.p) (sign l.side) (axis_of l.axis) (wall_of h.wall.now)) (drop l.h-index l.halves)
    → Every (λ h. Turns (point_of l.p) (sign l.side) (axis_of l.axis) (wall_of h.wall.now)) l.halves
