use Rattle.std.proofs.Common.{◌≡◌, ℕ, ◌<◌, ◌≤◌, ◌^◌, sym, subst, arith, to_z}
use Rattle.std.specs.Prelude.{ℤ, pos, nat_abs}
use Rattle.std.specs.Int.{w64}
use Rattle.std.proofs.lemmas.Int.{to_z_pos}
use Rattle.scattering.specs.Plane.{IsPoint}
use Rattle.plane_geom.specs.Places.{point}
use Rattle.sample_walls.proofs.OnAxis.{on-axis}
use Rattle.sample_walls.proofs.places.on_axis.Goals as goal

read : (x : ℕ) → x < 2 ^ 16 → to_z w64 x ≡ pos x
read x h = to_z_pos w64 x (omega (arith, h))

pub invariant_of-result : goal.invariant_of-result
invariant_of-result c =
    let e = read c.args.x c.ranges.x.fits in
    record { reduced = subst (λ (z : ℤ). IsPoint (point z (pos 0) (pos 1))) (sym e) (on-axis c.args.x); near = (subst (λ (z : ℤ). nat_abs z ≤ 2 ^ 40) (sym e) (let r = c.ranges.x.fits in omega (arith, r)), omega arith, omega arith) }
