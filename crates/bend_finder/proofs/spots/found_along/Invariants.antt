use Rattle.std.proofs.Common.{ℕ, List, take}
use Rattle.scattering.specs.Collections.{Every}
use Rattle.scattering.specs.Wall.{Wall}
use Rattle.plane_geom.specs.Shown.{point_of}
use Rattle.scatter_diagram.specs.Listed.{AreOfOrder}
use Rattle.scatter_diagram.specs.Shown.{walls_of}
use Rattle.bend_finder.specs.Marks.{all_along}
use Rattle.bend_finder.specs.Runs.{IsRunOf, AreAllLive, IsFoundOn}
use Rattle.bend_finder.proofs.spots.found_along.Given as goal

abbrev pub invariant-loop-run : goal.invariant-loop-run
invariant-loop-run l = record {
  walls : (ls : List Wall) → Every (λ a. IsRunOf ls (walls_of a.now)) l.along → AreAllLive ls → IsFoundOn ls (all_along (take l.run-index l.along)) (point_of l.q) (walls_of l.found);
  order : (n : ℕ) → Every (λ a. AreOfOrder n a.now) l.along → AreOfOrder n l.found;
}
