use Rattle.std.proofs.Common.{◌+◌, ◌<◌, ℕ, List, subst, arith}
use Rattle.scattering.specs.LocalProduct.{Half, axis_x, axis_y}
use Rattle.weight_bounds.specs.Masses.{mass_at, saturated, IsBound, BoundsByDegree}
use Rattle.weight_bounds.specs.Rows.{sum_below}
use Rattle.weight_bounds.specs.Bounds.{SeenBound, BoundsImages, BoundsWeight, majorant_of}
use Rattle.weight_bounds.proofs.Totals.{sum-next}
use Rattle.weight_bounds.proofs.Majorants.{mass-by-degree}
use Rattle.weight_bounds.proofs.bound.WeightBound.bound.Goals as goal

both-bounded : (b : SeenBound) (total both : ℕ) (hs : List Half) → ((v : ℕ → ℕ) → BoundsByDegree b.order b.masses v → IsBound total (sum_below (b.order + 1) v))
    → ((v w : ℕ) → IsBound total v → IsBound total w → IsBound both (v + w)) → both < saturated → BoundsImages b hs → BoundsWeight both b.order hs
both-bounded b total both hs sums twice small images =
    let x = sums (λ i. mass_at i (majorant_of b.order hs axis_x)) images.x.masses in
    let y = sums (λ i. mass_at i (majorant_of b.order hs axis_y)) images.y.masses in
    let a = twice _ _ x y small in
    let p = mass-by-degree b.order (majorant_of b.order hs axis_x) in
    let q = mass-by-degree b.order (majorant_of b.order hs axis_y) in
    let m = sum-next b.order (λ i. mass_at i (majorant_of b.order hs axis_x)) in
    let n = sum-next b.order (λ i. mass_at i (majorant_of b.order hs axis_y)) in
    omega (arith, a, p, q, m, n)

pub returns-then-both-le-LARGEST_WEIGHT-clause-bound : goal.returns-then-both-le-LARGEST_WEIGHT-clause-bound
returns-then-both-le-LARGEST_WEIGHT-clause-bound c hs h =
    let small : c.sum-both.result < saturated = omega (arith, c.if-both-le-LARGEST_WEIGHT.true) in
    subst (λ (b : SeenBound). BoundsImages b hs → BoundsWeight c.sum-both.result b.order hs) c.self.view_is
    (both-bounded (record { order = c.self.inside.order; reach = c.self.inside.reach; masses = c.self.inside.masses }) c.total-mass.result c.sum-both.result hs
    c.total-mass.ensures c.sum-both.ensures small) h
