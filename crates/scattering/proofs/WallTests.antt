-- What the tests of walls say: of a point on a wall, and of walls that aren't parallel.
use Rattle.std.specs.Prelude.{◌≡◌, ◌≢◌, pos, true, false}
use Rattle.scattering.specs.Series.{det, int_eq}
use Rattle.scattering.specs.Plane.{Point, difference}
use Rattle.scattering.specs.Wall.{Wall, is_on, are_parallel}
use Rattle.scattering.proofs.Lists.{and-left}
use Rattle.scattering.proofs.Keys.{int_eq-same, int_eq-refl}

pub on-line : (w : Wall) (p : Point) → is_on w p ≡ true → det w.dir (difference w.at p) ≡ pos 0
on-line w p e = int_eq-same _ (pos 0) (and-left (int_eq (det w.dir (difference w.at p)) (pos 0)) _ e)

pub not-parallel : (u v : Wall) → are_parallel u v ≡ false → det u.dir v.dir ≢ pos 0
not-parallel u v e z = let t : are_parallel u v ≡ true = rw z (int_eq-refl (pos 0)) in absurd (cc)
