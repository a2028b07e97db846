use Rattle.std.proofs.Common.{◌≡◌, ◌+◌, length, drop}
use Rattle.scatter_diagram.specs.Shown.{walls_of}
use Rattle.scatter_diagram.specs.Listed.{AreOfOrder}
use Rattle.ray_merge.specs.Rays.{AreJoinable, place_count}
use Rattle.ray_merge.proofs.Steps.{Merging}
use Rattle.ray_merge.proofs.merge.merged_rays.Given as goal

abbrev pub invariant-loop-place : goal.invariant-loop-place
invariant-loop-place l = record {
  order : AreOfOrder l.order l.out.items;
  merging : Merging l.order l.e.diagram.rays (walls_of l.fn.added.items) (walls_of l.out.items) (drop l.i l.e.diagram.rays) (walls_of l.left.items);
  left : AreOfOrder l.order l.left.items;
  joinable : AreJoinable l.order (drop l.i l.e.diagram.rays) (walls_of l.left.items);
  count : length l.out.items + place_count (drop l.i l.e.diagram.rays) (walls_of l.left.items) ≡ place_count l.e.diagram.rays (walls_of l.fn.added.items);
}

abbrev pub decreases-loop-place : goal.decreases-loop-place
decreases-loop-place l = length (drop l.i l.e.diagram.rays) + length l.left.items
