use Rattle.std.proofs.Common.{take}
use Rattle.std.specs.Prelude.{IsTrue}
use Rattle.scattering.specs.Collections.{In}
use Rattle.scattering.specs.Wall.{Wall}
use Rattle.plane_geom.specs.Shown.{point_of}
use Rattle.scatter_diagram.specs.Shown.{walls_of}
use Rattle.scattering.specs.Wall.{is_on}
use Rattle.bend_finder.proofs.spots.is_on_one.Given as goal

abbrev pub invariant-loop-w : goal.invariant-loop-w
invariant-loop-w l = (v : Wall) → In v (walls_of (take l.w-index l.walls)) → IsTrue (is_on v (point_of l.p)) → ⊥
