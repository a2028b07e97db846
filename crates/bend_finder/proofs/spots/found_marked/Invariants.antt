use Rattle.std.proofs.Common.{ℕ, List, take, ◌++◌}
use Rattle.scattering.specs.Collections.{Every}
use Rattle.scattering.specs.Wall.{Wall}
use Rattle.plane_geom.specs.Shown.{point_of}
use Rattle.scatter_diagram.specs.Listed.{AreOfOrder}
use Rattle.scatter_diagram.specs.Shown.{walls_of}
use Rattle.bend_finder.specs.Marks.{mark_walls, all_marked, AreMarksOfOrder}
use Rattle.bend_finder.specs.Runs.{IsRunOf, AreAllLive, IsFoundOn}
use Rattle.bend_finder.proofs.spots.found_marked.Given as goal

abbrev pub invariant-loop-m : goal.invariant-loop-m
invariant-loop-m l = record {
  walls : (ls seen : List Wall) → IsFoundOn ls seen (point_of l.q) (walls_of l.fn.found) → Every (λ m. IsRunOf ls (mark_walls m)) l.marks → AreAllLive ls
      → IsFoundOn ls (seen ++ all_marked (take l.m-index l.marks)) (point_of l.q) (walls_of l.found);
  order : (n : ℕ) → AreOfOrder n l.fn.found → AreMarksOfOrder n l.marks → AreOfOrder n l.found;
}
