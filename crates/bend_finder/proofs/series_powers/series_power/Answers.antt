use Rattle.std.proofs.Common.{◌≡◌, ◌≤◌, ◌^◌, ℕ, sym, subst, to_z, arith}
use Rattle.std.specs.Prelude.{ℤ, pos}
use Rattle.std.proofs.lemmas.Int.{ints}
use mir.Syntax.{w32}
use Rattle.limits.specs.Limits.{largest_weight}
use Rattle.scattering.specs.Series.{absolute, pow, power, mass_to}
use Rattle.scattering.specs.BrokenLine.{live_on, product}
use Rattle.plane_geom.specs.Shown.{point_of}
use Rattle.trunc_series.specs.Shown.{IsSeriesOf, power_mass}
use Rattle.scatter_diagram.specs.Shown.{walls_of}
use Rattle.bend_finder.specs.Powers.{series_on}
use Rattle.bend_finder.proofs.ExactPowers.{product-light, power-light, series-constant, series-others, series-near, exact-power}
use Rattle.bend_finder.proofs.series_powers.series_power.Goals as goal

pub series_product-requires-clause-light : goal.series_product-requires-clause-light
series_product-requires-clause-light c =
    let t = c.if-times-eq0.false in
    product-light c.args.most c.args.times largest_weight c.args.walls.now (point_of c.args.q.now) (omega (arith, t)) c.requires.light

pub power-requires-clause-constant : goal.power-requires-clause-constant
power-requires-clause-constant c = series-constant c.args.most c.requires.most c.args.walls.now (point_of c.args.q.now) c.in_ok-product.product c.in_ok-product.ensures

pub power-requires-clause-others : goal.power-requires-clause-others
power-requires-clause-others c = series-others c.args.most c.requires.most c.args.walls.now (point_of c.args.q.now) c.in_ok-product.product c.in_ok-product.ensures

pub power-requires-clause-near : goal.power-requires-clause-near
power-requires-clause-near c = series-near c.args.most c.requires.most c.args.walls.now (point_of c.args.q.now) c.in_ok-product.product c.in_ok-product.ensures

-- a number that an i32 holds
as-signed : (n : ℕ) → n ≤ 2 ^ 25 → to_z w32 n ≡ pos n
as-signed n h = omega (arith, ints, h)

pub power-requires-clause-mass : goal.power-requires-clause-mass
power-requires-clause-mass c =
    let s = c.in_ok-product.product in
    let l = power-light c.args.most c.args.times largest_weight (live_on (walls_of c.args.walls.now) (point_of c.args.q.now)) s c.in_ok-product.ensures c.requires.light in
    subst (λ (z : ℤ). power_mass s z ≤ largest_weight) (sym (as-signed c.args.times c.requires.times))
    (subst (λ (k : ℕ). mass_to k (pow k (absolute s.terms) c.args.times) ≤ largest_weight) (sym c.in_ok-product.ensures.order) l)

pub returns : goal.returns
returns c =
    let n = c.args.most in
    let s = c.in_ok-product.product in
    let p = c.in_ok-power-2.power in
    let h : IsSeriesOf p n (pow n s.terms c.args.times) =
    subst (λ (k : ℕ). IsSeriesOf p k (pow k s.terms c.args.times)) c.in_ok-product.ensures.order
    (subst (λ (z : ℤ). IsSeriesOf p s.order (power s.order s.terms z)) (as-signed c.args.times c.requires.times) c.in_ok-power-2.ensures) in
    exact-power n c.args.times (product n (series_on (walls_of c.args.walls.now) (point_of c.args.q.now))) s p c.in_ok-product.ensures h
