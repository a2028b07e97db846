use Rattle.std.proofs.Common.{◌≡◌, ℕ, List, [], ◌∷◌, length, take, length-drop, subst, ap, arith}
use Rattle.std.proofs.lemmas.List.{nil_from_length}
use Rattle.scattering.specs.Wall.{IsWall}
use Rattle.scattering.proofs.Lists.{map-append}
use Rattle.plane_geom.specs.Shown.{point_of}
use Rattle.scatter_diagram.specs.Shown.{wall_of, walls_of}
use Rattle.scatter_diagram.proofs.Walls.{is-wall}
use Rattle.ray_merge.specs.declared.ray_term.RayTerm.{RayTerm}
use Rattle.ray_merge.proofs.RayLists.{order-push}
use Rattle.ray_merge.proofs.Runs.{Making, run-terms, run-along, run-light, run-made, all-counted, made-rays, some-run, some-taken, code-length}
use Rattle.ray_merge.proofs.merge.rays_of.Goals as goal

pub ray_of-requires-clause-each : goal.ray_of-requires-clause-each
ray_of-requires-clause-each c =
    rw (c.as_slice.ensures.value, c.in_ok-run.ensures, c.split_at.ensures.front)
    (run-terms c.args.order (point_of c.args.at.now) c.args.terms.now c.loop-left.left.now (walls_of c.loop-left.out.items) c.loop-left.invariant.making c.run_length.result _ c.run_length.ensures.along).each

pub ray_of-requires-clause-distinct : goal.ray_of-requires-clause-distinct
ray_of-requires-clause-distinct c =
    rw (c.as_slice.ensures.value, c.in_ok-run.ensures, c.split_at.ensures.front)
    (run-terms c.args.order (point_of c.args.at.now) c.args.terms.now c.loop-left.left.now (walls_of c.loop-left.out.items) c.loop-left.invariant.making c.run_length.result _ c.run_length.ensures.along).distinct

pub ray_of-requires-clause-along : goal.ray_of-requires-clause-along
ray_of-requires-clause-along c =
    rw (c.as_slice.ensures.value, c.in_ok-run.ensures, c.split_at.ensures.front)
    (run-along c.args.order (point_of c.args.at.now) c.args.terms.now c.loop-left.left.now (walls_of c.loop-left.out.items) c.loop-left.invariant.making c.run_length.result _ c.run_length.ensures.along)

pub ray_of-requires-clause-light : goal.ray_of-requires-clause-light
ray_of-requires-clause-light c =
    rw (c.as_slice.ensures.value, c.in_ok-run.ensures, c.split_at.ensures.front)
    (run-light c.args.order (point_of c.args.at.now) c.args.terms.now c.loop-left.left.now (walls_of c.loop-left.out.items) c.loop-left.invariant.making c.run_length.result _ c.run_length.ensures.along c.requires.light)

pub ray_of-requires-clause-any : goal.ray_of-requires-clause-any
ray_of-requires-clause-any c =
    let us = c.loop-left.left.now in
    let m = some-run us c.index-left-0.result c.run_length.result c.loop-left-test.true c.run_length.ensures.next in
    let t = some-taken us c.run_length.result c.run_length.ensures.within m in
    rw (c.as_slice.ensures.value, c.in_ok-run.ensures, c.split_at.ensures.front, code-length (take c.run_length.result us)) t

pub loop-left-smaller : goal.loop-left-smaller
loop-left-smaller c =
    let us = c.loop-left.left.now in
    let m = some-run us c.index-left-0.result c.run_length.result c.loop-left-test.true c.run_length.ensures.next in
    let e = ap length c.split_at.ensures.back in
    let l = length-drop c.run_length.result us in
    omega (arith, m, e, l, c.loop-left-test.true)

pub loop-left-preserved : goal.loop-left-preserved
loop-left-preserved c =
    let n = c.args.order in
    let p = point_of c.args.at.now in
    let us = c.loop-left.left.now in
    let ws = c.loop-left.out.items in
    let w = c.in_ok-ray_of.field-0 in
    let m = some-run us c.index-left-0.result c.run_length.result c.loop-left-test.true c.run_length.ensures.next in
    record {
      order = rw c.in_ok-push.ensures.items (order-push n ws w c.loop-left.invariant.order c.in_ok-ray_of.ensures.order);
      making = rw (c.in_ok-push.ensures.items, map-append wall_of ws (w ∷ []), c.split_at.ensures.back)
          (run-made n p c.args.terms.now us (walls_of ws) c.loop-left.invariant.making c.run_length.result _ c.run_length.ensures.along (wall_of w)
          (subst (λ (n : ℕ). IsWall n (wall_of w)) c.in_ok-ray_of.ensures.order (is-wall w))
          (rw (c.as_slice.ensures.value, c.in_ok-run.ensures, c.split_at.ensures.front) at c.in_ok-ray_of.ensures.wall)
          c.in_ok-ray_of.ensures.dir (some-taken us c.run_length.result c.run_length.ensures.within m) c.run_length.ensures.next);
    }

pub returns-clause-rays : goal.returns-clause-rays
returns-clause-rays c = made-rays c.args.order (point_of c.args.at.now) c.args.terms.now c.loop-left.left.now c.loop-left.out.items c.loop-left.invariant.order c.loop-left.invariant.making

pub returns-clause-terms : goal.returns-clause-terms
returns-clause-terms c =
    let n = c.args.order in
    let p = point_of c.args.at.now in
    let ts = c.args.terms.now in
    let ws = walls_of c.loop-left.out.items in
    let none : c.loop-left.left.now ≡ [] = nil_from_length c.loop-left.left.now (omega (arith, c.loop-left-test.false)) in
    all-counted n p ts ws (subst (λ (us : List RayTerm). Making n p ts us ws) none c.loop-left.invariant.making)
