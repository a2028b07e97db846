-- The orders of points and of rays are strict.
use Rattle.std.proofs.Common.{◌≡◌, true}
use Rattle.std.specs.Prelude.{◌*ℤ◌}
use Rattle.scattering.specs.Series.{exp_before}
use Rattle.scattering.specs.Plane.{Point, point_eq, point_before}
use Rattle.scattering.specs.Wall.{Wall}
use Rattle.scattering.specs.Completion.{ray_before}
use Rattle.scattering.proofs.Keys.{point_eq-same}
use Rattle.scattering.proofs.StrictOrders.{lex-asym, exp_before-asym, two-asym}

point_before-asym : (p q : Point) → point_before p q ≡ true → point_before q p ≡ true → ⊥
point_before-asym p q h i = lex-asym (p.x *ℤ q.w) (q.x *ℤ p.w) (p.y *ℤ q.w) (q.y *ℤ p.w) h i

pub ray_before-asym : (r s : Wall) → ray_before r s ≡ true → ray_before s r ≡ true → ⊥
ray_before-asym r s p q = two-asym point_before point_eq exp_before point_before-asym point_eq-same exp_before-asym r.at s.at r.dir s.dir p q
