use Rattle.std.proofs.Common.{◌≡◌, ◌∙◌, ◌<◌, ◌-◌, sym, ap, subst, List, length, drop, arith}
use Rattle.std.proofs.Math.Seq.{drop-length}
use Rattle.limits.specs.Limits.{largest_weight}
use Rattle.scattering.specs.Wall.{Wall}
use Rattle.scattering.specs.BrokenLine.{product}
use Rattle.plane_geom.specs.Shown.{point_of}
use Rattle.trunc_series.specs.Shown.{IsSeriesOf}
use Rattle.scatter_diagram.specs.declared.wall.Wall.{Wall as CodeWall}
use Rattle.scatter_diagram.specs.Shown.{walls_of}
use Rattle.bend_finder.specs.Powers.{series_on}
use Rattle.bend_finder.proofs.PowerMajorants.{walls-from, order-at}
use Rattle.bend_finder.proofs.ExactPowers.{series-near, factor-light}
use Rattle.bend_finder.proofs.series_powers.series_product.Goals as goal

pub loop-i-init : goal.loop-i-init
loop-i-init c =
    let ws = c.args.walls.now in
    let n : length ws - 0 ≡ length ws = omega arith in
    subst (λ (us : List CodeWall). IsSeriesOf c.in_ok-product.product c.args.most (product c.args.most (series_on (walls_of us) (point_of c.args.q.now)))) (sym (ap (λ j. drop j ws) n ∙ drop-length ws)) c.in_ok-product.ensures

pub times_function-requires : goal.times_function-requires
times_function-requires c =
    let ws = c.args.walls.now in
    let q = point_of c.args.q.now in
    let t = c.loop-i-test.true in
    let l : length ws - 1 - c.loop-i.i < length ws = omega (arith, t) in
    record {
      most = c.requires.most;
      function = order-at c.args.most ws (length ws - 1 - c.loop-i.i) c.index-walls-place.result l c.index-walls-place.is c.requires.order;
      order = c.loop-i.invariant.order;
      near = series-near c.args.most c.requires.most (drop (length ws - c.loop-i.i) ws) q c.loop-i.product c.loop-i.invariant;
      light = factor-light c.args.most largest_weight c.loop-i.i ws q c.index-walls-place.result c.loop-i.product t c.index-walls-place.is c.requires.light c.loop-i.invariant;
    }

pub loop-i-preserved : goal.loop-i-preserved
loop-i-preserved c =
    let ws = c.args.walls.now in
    subst (λ (us : List Wall). IsSeriesOf c.in_ok-product-2.product c.args.most (product c.args.most (series_on us (point_of c.args.q.now)))) (sym (walls-from ws c.loop-i.i c.index-walls-place.result c.loop-i-test.true c.index-walls-place.is))
    (c.in_ok-product-2.ensures (walls_of (drop (length ws - c.loop-i.i) ws)) c.loop-i.invariant)

pub returns : goal.returns
returns c =
    let ws = c.args.walls.now in
    let n : length ws - c.loop-i.i ≡ 0 = let t = c.loop-i-test.false in omega (arith, t) in
    subst (λ (us : List CodeWall). IsSeriesOf c.loop-i.product c.args.most (product c.args.most (series_on (walls_of us) (point_of c.args.q.now)))) (ap (λ j. drop j ws) n) c.loop-i.invariant
