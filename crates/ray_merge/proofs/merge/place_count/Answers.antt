use Rattle.std.proofs.Common.{drop, length-drop, arith}
use Rattle.std.proofs.lemmas.List.{length-map}
use Rattle.scatter_diagram.specs.Shown.{wall_of, walls_of}
use Rattle.ray_merge.proofs.RayLists.{some-left}
use Rattle.ray_merge.proofs.Counting.{count-fronts, count-ended, count-most}
use Rattle.ray_merge.proofs.merge.place_count.Goals as goal

pub overflow_add-count : goal.overflow_add-count
overflow_add-count c =
    let rays = c.args.e.now.diagram.rays in
    let walls = walls_of c.args.added.now.items in
    let a = count-fronts c.in-Some.place (drop c.loop-place.i rays) (drop c.loop-place.j walls) c.in-Some.ensures.fronts in
    let m = count-most rays walls in
    let l = length-map c.args.added.now.items wall_of in
    let i = c.loop-place.invariant.count in
    let n = c.ray_count-ray_count.ensures.count in
    let s = c.ray_count-ray_count.ensures.small in
    omega (arith, a, m, l, i, n, s, c.args.added.now.ok, c.args.added.now.small)

pub loop-place-preserved : goal.loop-place-preserved
loop-place-preserved c =
    let rays = c.args.e.now.diagram.rays in
    let walls = walls_of c.args.added.now.items in
    let f = c.in-Some.ensures.fronts in
    let a = count-fronts c.in-Some.place (drop c.loop-place.i rays) (drop c.loop-place.j walls) f in
    let i = c.loop-place.invariant.count in
    let b = c.next_first-i.ensures.bound in
    let d = c.next_second-j.ensures.bound in
    let x = some-left rays c.loop-place.i f.0 f.2 in
    let y = some-left walls c.loop-place.j f.1 f.3 in
    let l = length-map c.args.added.now.items wall_of in
    record {
      count = rw (c.next_first-i.ensures.rays rays, c.next_second-j.ensures.rays walls) (omega (arith, a, i));
      first = omega (arith, b, x);
      second = omega (arith, d, y, l);
    }

pub overflow_add-result : goal.overflow_add-result
overflow_add-result c =
    let rays = c.args.e.now.diagram.rays in
    let walls = walls_of c.args.added.now.items in
    let a = count-ended (drop c.loop-place.i rays) (drop c.loop-place.j walls) (c.order_at.ensures.ended c.in_default.is) in
    let p = length-drop c.loop-place.i rays in
    let q = length-drop c.loop-place.j walls in
    let m = count-most rays walls in
    let l = length-map c.args.added.now.items wall_of in
    let i = c.loop-place.invariant.count in
    let n = c.ray_count-ray_count.ensures.count in
    let s = c.ray_count-ray_count.ensures.small in
    omega (arith, a, p, q, m, l, i, n, s, c.args.added.now.ok, c.args.added.now.small)

pub overflow_add-result-2 : goal.overflow_add-result-2
overflow_add-result-2 c =
    let rays = c.args.e.now.diagram.rays in
    let walls = walls_of c.args.added.now.items in
    let a = count-ended (drop c.loop-place.i rays) (drop c.loop-place.j walls) (c.order_at.ensures.ended c.in_default.is) in
    let p = length-drop c.loop-place.i rays in
    let q = length-drop c.loop-place.j walls in
    let m = count-most rays walls in
    let l = length-map c.args.added.now.items wall_of in
    let i = c.loop-place.invariant.count in
    let n = c.ray_count-ray_count.ensures.count in
    let s = c.ray_count-ray_count.ensures.small in
    omega (arith, a, p, q, m, l, i, n, s, c.len.ensures, c.args.added.now.ok, c.args.added.now.small)

pub returns-clause-count : goal.returns-clause-count
returns-clause-count c =
    let rays = c.args.e.now.diagram.rays in
    let walls = walls_of c.args.added.now.items in
    let a = count-ended (drop c.loop-place.i rays) (drop c.loop-place.j walls) (c.order_at.ensures.ended c.in_default.is) in
    let p = length-drop c.loop-place.i rays in
    let q = length-drop c.loop-place.j walls in
    let l = length-map c.args.added.now.items wall_of in
    let i = c.loop-place.invariant.count in
    let n = c.ray_count-ray_count.ensures.count in
    omega (arith, a, p, q, l, i, n, c.len.ensures)
