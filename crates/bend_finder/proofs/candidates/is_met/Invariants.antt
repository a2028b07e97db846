use Rattle.std.proofs.Common.{take}
use Rattle.scattering.specs.Collections.{In}
use Rattle.scattering.specs.Wall.{Wall}
use Rattle.plane_geom.specs.Shown.{point_of, vector_of}
use Rattle.scatter_diagram.specs.Shown.{walls_of}
use Rattle.bend_finder.specs.Marks.{MeetsFrom}
use Rattle.bend_finder.proofs.candidates.is_met.Given as goal

abbrev pub invariant-loop-w : goal.invariant-loop-w
invariant-loop-w l = (v : Wall) → In v (walls_of (take l.w-index l.walls)) → MeetsFrom (point_of l.p) (vector_of l.d) v → ⊥
