use Rattle.std.proofs.Common.{ℕ, List, take}
use Rattle.scattering.specs.Collections.{Every}
use Rattle.scattering.specs.Wall.{Wall}
use Rattle.plane_geom.specs.Shown.{point_of}
use Rattle.scatter_diagram.specs.Listed.{AreOfOrder}
use Rattle.scatter_diagram.specs.Shown.{walls_of}
use Rattle.bend_finder.specs.Runs.{AreLiveRunsOf, IsFoundOn, all_walls}
use Rattle.bend_finder.proofs.spots.plain_run.Given as goal

abbrev pub invariant-loop-run : goal.invariant-loop-run
invariant-loop-run l = record {
  walls : (ls : List Wall) → AreLiveRunsOf ls l.runs → IsFoundOn ls (all_walls (take l.run-index l.runs)) (point_of l.q) (walls_of l.found);
  order : (n : ℕ) → Every (λ r. AreOfOrder n r.items) l.runs → AreOfOrder n l.found;
}
