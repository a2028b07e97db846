use Rattle.std.proofs.Common.{◌≡◌, ◌++◌, drop}
use Rattle.scatter_diagram.specs.Shown.{walls_of}
use Rattle.scatter_diagram.specs.Listed.{AreOfOrder}
use Rattle.ray_merge.proofs.merge.push_raised.Given as goal

abbrev pub invariant-loop-i : goal.invariant-loop-i
invariant-loop-i l = record {
  walls : walls_of l.out.items ++ drop l.i l.e.diagram.rays ≡ walls_of l.fn.out.items ++ drop l.from l.e.diagram.rays;
  order : AreOfOrder l.order l.out.items;
}
