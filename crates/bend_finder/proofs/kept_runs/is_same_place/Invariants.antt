use Rattle.std.proofs.Common.{◌≡◌, take}
use Rattle.scattering.specs.BrokenLine.{live_on}
use Rattle.plane_geom.specs.Shown.{point_of}
use Rattle.scatter_diagram.specs.Shown.{walls_of}
use Rattle.bend_finder.proofs.kept_runs.is_same_place.Given as goal

abbrev pub invariant-loop-w : goal.invariant-loop-w
invariant-loop-w l = live_on (walls_of (take l.w-index l.walls)) (point_of l.p) ≡ live_on (walls_of (take l.w-index l.walls)) (point_of l.q)
