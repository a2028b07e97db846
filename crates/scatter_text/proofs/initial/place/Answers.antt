-- The point is near, and its numbers are exact.
use Rattle.std.proofs.Common.{rules, sym, subst, ℤ}
use Rattle.std.specs.Prelude.{pos, ◌≤ℤ◌}
use Rattle.plane_geom.specs.Shown.{point_of}
use Rattle.plane_geom.proofs.Quotients.{quotient-along}
use Rattle.scatter_text.proofs.Places.{product-read, far-along, some-near, at-some, not-far, is-place}
use Rattle.sum_algebra.proofs.Integers.{positive-mul}
use Rattle.scatter_text.proofs.initial.place.Goals as goal

pub new-near-requires : goal.new-near-requires
new-near-requires c =
    let w = product-read c.product-3.result c.args.x.now.den c.args.y.now.den (search rules) (search rules) (search rules) c.product-3.ensures in
    subst (λ (z : ℤ). pos 1 ≤ℤ z) (sym w) (positive-mul c.args.x.now.den c.args.y.now.den c.requires.x.positive c.requires.y.positive)

pub unwrap-requires : goal.unwrap-requires
unwrap-requires c =
    let x = product-read c.product.result c.args.x.now.num c.args.y.now.den (search rules) (search rules) (search rules) c.product.ensures in
    let y = product-read c.product-2.result c.args.y.now.num c.args.x.now.den (search rules) (search rules) (search rules) c.product-2.ensures in
    let w = product-read c.product-3.result c.args.x.now.den c.args.y.now.den (search rules) (search rules) (search rules) c.product-3.ensures in
    some-near c.new-near.result _ c.new-near.ensures.far (λ far. not-far c.args.x.now c.args.y.now c.requires.x.positive c.requires.y.positive c.requires.near (far-along _ _ _ _ _ _ x y w far))

pub returns : goal.returns
returns c =
    let x = product-read c.product.result c.args.x.now.num c.args.y.now.den (search rules) (search rules) (search rules) c.product.ensures in
    let y = product-read c.product-2.result c.args.y.now.num c.args.x.now.den (search rules) (search rules) (search rules) c.product-2.ensures in
    let w = product-read c.product-3.result c.args.x.now.den c.args.y.now.den (search rules) (search rules) (search rules) c.product-3.ensures in
    is-place c.args.x.now c.args.y.now c.requires.x.positive c.requires.y.positive (point_of c.unwrap.result)
    (quotient-along _ _ _ _ _ _ (point_of c.unwrap.result) x y w (at-some c.new-near.result _ c.unwrap.result c.unwrap.ensures c.new-near.ensures.point))
