use Rattle.std.proofs.Common.{◌≡◌, take}
use Rattle.scattering.specs.Wall.{cut_walls}
use Rattle.scatter_diagram.specs.Shown.{walls_of}
use Rattle.scatter_diagram.specs.Listed.{AreOfOrder}
use Rattle.scatter_diagram.proofs.lists.cut_walls.Given as goal

abbrev pub invariant-loop-w : goal.invariant-loop-w
invariant-loop-w l = record {
  walls : walls_of l.out.items ≡ cut_walls l.order (walls_of (take l.w-index l.walls));
  order : AreOfOrder l.order l.out.items;
}
