use Rattle.std.proofs.Common.{ℕ, List, take}
use Rattle.scattering.specs.Wall.{Wall}
use Rattle.plane_geom.specs.Shown.{point_of, vector_of}
use Rattle.scatter_diagram.specs.Listed.{AreOfOrder}
use Rattle.scatter_diagram.specs.Shown.{walls_of}
use Rattle.joint_finder.specs.Crossings.{Adds}
use Rattle.bend_finder.specs.Crossings.{IsStartOfSome}
use Rattle.bend_finder.specs.Marks.{marked, KeepsMarks, KeepsOrder}
use Rattle.bend_finder.proofs.candidates.add_starts.Given as goal

abbrev pub invariant-loop-w : goal.invariant-loop-w
invariant-loop-w l = record {
  points : Adds (IsStartOfSome (take l.w-index l.walls) (point_of l.p) (vector_of l.d)) (marked l.initial.marks.items) (marked l.marks.items);
  marks : (ls : List Wall) → KeepsMarks ls (walls_of l.walls) l.initial.marks.items l.marks.items;
  order : (n : ℕ) → AreOfOrder n l.walls → KeepsOrder n l.initial.marks.items l.marks.items;
}
