use Rattle.std.proofs.Common.{◌≡◌, ◌∙◌, ◌<◌, ◌-◌, sym, ap, subst, List, length, drop, arith}
use Rattle.std.proofs.Math.Seq.{drop-length}
use Rattle.scattering.specs.Wall.{Wall}
use Rattle.scattering.specs.BrokenLine.{product, live_on}
use Rattle.plane_geom.specs.Shown.{point_of}
use Rattle.trunc_series.specs.Capped.{IsMajorantOf}
use Rattle.scatter_diagram.specs.declared.wall.Wall.{Wall as CodeWall}
use Rattle.scatter_diagram.specs.Shown.{walls_of}
use Rattle.bend_finder.specs.Powers.{functions_on}
use Rattle.bend_finder.proofs.PowerMajorants.{walls-from, walls-tame, product-near, order-at}
use Rattle.bend_finder.proofs.powers.product_on.Goals as goal

pub loop-i-init : goal.loop-i-init
loop-i-init c =
    let ws = c.args.walls.now in
    let n : length ws - 0 ≡ length ws = omega arith in
    subst (λ (us : List CodeWall). IsMajorantOf c.in_ok-product.product c.args.most (product c.args.most (functions_on (walls_of us) (point_of c.args.q.now)))) (sym (ap (λ j. drop j ws) n ∙ drop-length ws)) c.in_ok-product.ensures

pub times-requires : goal.times-requires
times-requires c =
    let ws = c.args.walls.now in
    let q = point_of c.args.q.now in
    let l : length ws - 1 - c.loop-i.i < length ws = let t = c.loop-i-test.true in omega (arith, t) in
    record {
      most = c.requires.most;
      function = order-at c.args.most ws (length ws - 1 - c.loop-i.i) c.index-walls-place.result l c.index-walls-place.is c.requires.order;
      order = c.loop-i.invariant.order;
      near = product-near c.args.most c.requires.most (live_on (walls_of (drop (length ws - c.loop-i.i) ws)) q) (walls-tame ws (length ws - c.loop-i.i) q) c.loop-i.product c.loop-i.invariant;
    }

pub loop-i-preserved : goal.loop-i-preserved
loop-i-preserved c =
    let ws = c.args.walls.now in
    subst (λ (us : List Wall). IsMajorantOf c.in_ok-product-2.product c.args.most (product c.args.most (functions_on us (point_of c.args.q.now)))) (sym (walls-from ws c.loop-i.i c.index-walls-place.result c.loop-i-test.true c.index-walls-place.is))
    (c.in_ok-product-2.ensures (walls_of (drop (length ws - c.loop-i.i) ws)) c.loop-i.invariant)

pub returns : goal.returns
returns c =
    let ws = c.args.walls.now in
    let n : length ws - c.loop-i.i ≡ 0 = let t = c.loop-i-test.false in omega (arith, t) in
    subst (λ (us : List CodeWall). IsMajorantOf c.loop-i.product c.args.most (product c.args.most (functions_on (walls_of us) (point_of c.args.q.now)))) (ap (λ j. drop j ws) n) c.loop-i.invariant
