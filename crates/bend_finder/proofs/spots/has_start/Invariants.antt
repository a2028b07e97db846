use Rattle.std.proofs.Common.{take}
use Rattle.std.specs.Prelude.{IsTrue}
use Rattle.scattering.specs.Collections.{In}
use Rattle.scattering.specs.Wall.{Wall}
use Rattle.plane_geom.specs.Shown.{point_of}
use Rattle.scatter_diagram.specs.Shown.{walls_of}
use Rattle.bend_finder.specs.Special.{live_starts}
use Rattle.bend_finder.proofs.spots.has_start.Given as goal

abbrev pub invariant-loop-w : goal.invariant-loop-w
invariant-loop-w l = (v : Wall) → In v (walls_of (take l.w-index l.walls)) → IsTrue (live_starts v (point_of l.p)) → ⊥
