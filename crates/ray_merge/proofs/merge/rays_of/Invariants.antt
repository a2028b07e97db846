use Rattle.std.proofs.Common.{length}
use Rattle.plane_geom.specs.Shown.{point_of}
use Rattle.scatter_diagram.specs.Shown.{walls_of}
use Rattle.scatter_diagram.specs.Listed.{AreOfOrder}
use Rattle.ray_merge.proofs.Runs.{Making}
use Rattle.ray_merge.proofs.merge.rays_of.Given as goal

abbrev pub invariant-loop-left : goal.invariant-loop-left
invariant-loop-left l = record {
  order : AreOfOrder l.order l.out.items;
  making : Making l.order (point_of l.at) l.terms l.left (walls_of l.out.items);
}

abbrev pub decreases-loop-left : goal.decreases-loop-left
decreases-loop-left l = length l.left
