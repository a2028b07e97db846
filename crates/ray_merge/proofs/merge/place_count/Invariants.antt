use Rattle.std.proofs.Common.{◌≡◌, ◌+◌, ◌≤◌, length, drop}
use Rattle.scatter_diagram.specs.Shown.{walls_of}
use Rattle.ray_merge.specs.Rays.{place_count}
use Rattle.ray_merge.proofs.merge.place_count.Given as goal

abbrev pub invariant-loop-place : goal.invariant-loop-place
invariant-loop-place l = record {
  count : l.count + place_count (drop l.i l.e.diagram.rays) (drop l.j (walls_of l.added.items)) ≡ place_count l.e.diagram.rays (walls_of l.added.items);
  first : l.i ≤ length l.e.diagram.rays;
  second : l.j ≤ length l.added.items;
}

abbrev pub decreases-loop-place : goal.decreases-loop-place
decreases-loop-place l = length (drop l.i l.e.diagram.rays) + length (drop l.j (walls_of l.added.items))
