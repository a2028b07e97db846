use Rattle.std.proofs.Common.{ℕ, List, take}
use Rattle.scattering.specs.Collections.{Every}
use Rattle.scattering.specs.Wall.{Wall}
use Rattle.plane_geom.specs.Shown.{point_of, vector_of}
use Rattle.scatter_diagram.specs.Listed.{AreOfOrder}
use Rattle.bend_finder.specs.Marks.{AreMarks, AreOfOrderAhead}
use Rattle.bend_finder.specs.Runs.{AreLiveRunsOf, all_walls}
use Rattle.bend_finder.proofs.candidates.candidates_ahead.Given as goal

abbrev pub invariant-loop-run : goal.invariant-loop-run
invariant-loop-run l = record {
  marks : (ls : List Wall) → AreLiveRunsOf ls l.runs → AreMarks ls (all_walls (take l.run-index l.runs)) (point_of l.p) (vector_of l.d) l.along.items l.marks.items l.far;
  order : (n : ℕ) → Every (λ r. AreOfOrder n r.items) l.runs → AreOfOrderAhead n l.along.items l.marks.items;
}
