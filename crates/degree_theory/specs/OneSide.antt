-- Points at which all live walls turn to one side of a direction, so that one image tells the correction.
use Rattle.std.specs.Prelude.{◌≡◌, ◌≢◌, ℕ, IsTrue, IsFalse, List, ℤ, pos, ◌*ℤ◌, ◌≤ℤ◌}
use Rattle.scattering.specs.Collections.{In, Every, EveryPair}
use Rattle.scattering.specs.Series.{Exp, Key, det, degree, key_mul, z, coef}
use Rattle.scattering.specs.Plane.{Point}
use Rattle.scattering.specs.Wall.{Wall, is_on, is_live, starts_at}
use Rattle.scattering.specs.LocalProduct.{image}
use Rattle.scattering.specs.Correction.{IsRatio, Lie, ratio_at}

-- every live wall on p turns to the side σ of u, which is 1 or -1, or goes through p along u
abbrev pub IsOneSided : List Wall → Point → ℤ → Exp → Type 0
IsOneSided ws p σ u = (w : Wall) → In w ws → IsTrue (is_on w p) → IsTrue (is_live w) → (pos 0 ≤ℤ (σ *ℤ det u w.dir)) × (det u w.dir ≡ pos 0 → IsFalse (starts_at w p))

-- h has terms of degree n, none along u, and the image of z^u is z^u + {h, z^u} at degree n
pub record IsReadOf (ws : List Wall) (p : Point) (n : ℕ) (u : Exp) (h : Lie) : Type 0 where
  pub ratios : Every (λ t. IsRatio t.1) h
  pub nonzero : Every (λ t. t.1.num ≢ pos 0) h
  pub distinct : EveryPair (λ t v. t.0 ≢ v.0) h
  pub degrees : Every (λ t. (degree t.0 ≡ n) × (det u t.0.exp ≢ pos 0)) h
  pub bracket : (k : Key) → degree k ≡ n → coef (image ws p n u) (key_mul k (z u)) *ℤ (ratio_at h k).den ≡ (ratio_at h k).num *ℤ det k.exp u
