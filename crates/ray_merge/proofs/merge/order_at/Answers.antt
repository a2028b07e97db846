use Rattle.std.proofs.Common.{◌+◌, ◌<◌, length, drop, arith}
use Rattle.scatter_diagram.specs.Shown.{wall_of, walls_of}
use Rattle.ray_merge.proofs.RayLists.{at-place, code-place}
use Rattle.ray_merge.proofs.merge.order_at.Goals as goal

pub returns-then-j-len-clause-fronts : goal.returns-then-j-len-clause-fronts
returns-then-j-len-clause-fronts c =
    let rays = c.args.e.now.diagram.rays in
    let i : c.args.i < length rays = let t = c.if-i-ray_count.true in let n = c.ray_count.ensures.count in omega (arith, t, n) in
    let j : c.args.j < length c.args.added.now.items = let t = c.if-j-len.true in let n = c.len.ensures in omega (arith, t, n) in (
      wall_of c.ray.result.now,
      wall_of c.index.result.now,
      (drop (c.args.i + 1) rays, at-place rays c.args.i (wall_of c.ray.result.now) i c.ray.ensures.wall),
      (drop (c.args.j + 1) (walls_of c.args.added.now.items), code-place c.args.added.now.items c.args.j c.index.result.now j c.index.ensures),
      c.compare_places.ensures,
    )
