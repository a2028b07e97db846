use Rattle.std.proofs.Common.{ℕ, subst, inl}
use Rattle.scattering.specs.Series.{pow}
use Rattle.scattering.specs.BrokenLine.{live_on, product}
use Rattle.plane_geom.specs.Shown.{point_of}
use Rattle.trunc_series.specs.Capped.{IsMajorantOf}
use Rattle.trunc_series.proofs.PowerTests.{majorant-power}
use Rattle.scatter_diagram.specs.Shown.{walls_of}
use Rattle.bend_finder.specs.Powers.{functions_on}
use Rattle.bend_finder.proofs.PowerMajorants.{product-near, product-others, walls-tame_all, product-keepable, functions-keepable}
use Rattle.bend_finder.proofs.powers.power_on.Goals as goal

pub power-requires-clause-near : goal.power-requires-clause-near
power-requires-clause-near c =
    let q = point_of c.args.q.now in
    product-near c.args.most c.requires.most (live_on (walls_of c.args.walls.now) q) (walls-tame_all c.args.walls.now q) c.in_ok-product.product c.in_ok-product.ensures

pub power-requires-clause-near_power : goal.power-requires-clause-near_power
power-requires-clause-near_power c =
    let q = point_of c.args.q.now in
    inl (product-others c.args.most c.requires.most (live_on (walls_of c.args.walls.now) q) (walls-tame_all c.args.walls.now q) c.in_ok-product.product c.in_ok-product.ensures)

pub returns : goal.returns
returns c =
    let n = c.args.most in
    let m = c.in_ok-product.product in
    let p = c.in_ok-power.power in
    let i = c.args.times in
    let ls = live_on (walls_of c.args.walls.now) (point_of c.args.q.now) in
    let fs = functions_on (walls_of c.args.walls.now) (point_of c.args.q.now) in
    let h : IsMajorantOf p n (pow n m.terms i) = subst (λ (k : ℕ). IsMajorantOf p k (pow k m.terms i)) c.in_ok-product.ensures.order c.in_ok-power.ensures in
    majorant-power n i (product n fs) m p (product-keepable n fs (functions-keepable ls)) c.in_ok-product.ensures h
