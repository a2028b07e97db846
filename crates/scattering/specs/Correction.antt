-- The correction at a point, and the diagram that corrections make of the one before.
--     IsCorrection ws p n h      h is what makes the local product at p trivial at degree n
--     IsMerged given e cs n e'   e' is e with the terms of the corrections cs
--     raised given n e           the walls from which the corrections of order n + 1 are read
use Rattle.std.specs.Prelude.{◌≡◌, ◌≢◌, ℕ, ◌+◌, ◌&&◌, cond, IsTrue, List, [], ◌∷◌, map, ℤ, pos, ◌+ℤ◌, ◌*ℤ◌, neg_ℤ, ◌≤ℤ◌, nat_abs}
use Rattle.std.specs.Bool.{MatchBool}
use Rattle.std.specs.Int.{IsGcd}
use Rattle.scattering.specs.Collections.{In, Every, EveryPair}
use Rattle.scattering.specs.Series.{Exp, Key, origin, det, key_eq, key_mul, exp_eq, degree, coef, rest, z, scale}
use Rattle.scattering.specs.Plane.{Point, IsPoint, IsDirection, point_eq, point_before}
use Rattle.scattering.specs.Wall.{Outgoing, Wall, Diagram, IsWall, cut_wall, cut_walls}
use Rattle.scattering.specs.LocalProduct.{image, axis_x, axis_y}
use Rattle.scattering.specs.Completion.{IsReduced}
use Rattle.scattering.specs.ActivePoint.{is_active, is_incoming}

-- num/den, in lowest terms
pub record Ratio : Type 0 where
  pub num : ℤ
  pub den : ℤ

pub record IsRatio (r : Ratio) : Type 0 where
  pub below : pos 1 ≤ℤ r.den
  pub lowest : IsGcd (nat_abs r.num) (nat_abs r.den) 1

abbrev pub Lie : Type 0
Lie = List (Key × Ratio)

-- the coefficient at a key, where keys are distinct
abbrev pub ratio_at : Lie → Key → Ratio
ratio_at [] k = record { num = pos 0; den = pos 1 }
ratio_at (t ∷ h) k = cond (key_eq t.0 k) t.1 (ratio_at h k)

-- h has only terms of degree n, none of exponent (0, 0), and the image of z^m is z^m + {h, z^m} at degree n
pub record IsCorrection (ws : List Wall) (p : Point) (n : ℕ) (h : Lie) : Type 0 where
  pub ratios : Every (λ t. IsRatio t.1) h
  pub nonzero : Every (λ t. t.1.num ≢ pos 0) h
  pub distinct : EveryPair (λ t u. t.0 ≢ u.0) h
  pub degrees : Every (λ t. (degree t.0 ≡ n) × (t.0.exp ≢ origin)) h
  pub bracket : (m : Exp) (k : Key) → In m (axis_x ∷ axis_y ∷ []) → degree k ≡ n →
      coef (image ws p n m) (key_mul k (z m)) *ℤ (ratio_at h k).den ≡ (ratio_at h k).num *ℤ det k.exp m

-- g·c is whole, where c is the coefficient and g the gcd of the exponent
abbrev pub IsWhole : Key × Ratio → Type 0
IsWhole t = (g : ℕ) → IsGcd (nat_abs t.0.exp.a) (nat_abs t.0.exp.b) g → (v : ℤ) × (v *ℤ t.1.den ≡ t.1.num *ℤ pos g)

-- the coefficient at k of all rays with this start and direction
abbrev pub ray_coef : List Wall → Point → Exp → Key → ℤ
ray_coef [] p d k = pos 0
ray_coef (r ∷ rays) p d k = cond (point_eq r.at p && exp_eq r.dir d) (coef (rest r.function) k) (pos 0) +ℤ ray_coef rays p d k

abbrev pub Corrections : Type 0
Corrections = List (Point × Lie)

-- v is -g·c, where c is the correction's coefficient at k and p, g = gcd of k's exponent; 0 where no correction is at p
abbrev pub IsAdded : Corrections → Point → Key → ℤ → Type 0
IsAdded [] p k v = v ≡ pos 0
IsAdded (c ∷ cs) p k v = MatchBool (point_eq c.0 p)
    ((g : ℕ) × IsGcd (nat_abs k.exp.a) (nat_abs k.exp.b) g × (v *ℤ (ratio_at c.1 k).den ≡ neg_ℤ (pos g *ℤ (ratio_at c.1 k).num)))
    (IsAdded cs p k v)

-- e' has the initial walls cut to degree n, and the rays of e with the corrections' terms
pub record IsMerged (given : List Wall) (e : Diagram) (corrections : Corrections) (n : ℕ) (e' : Diagram) : Type 0 where
  pub initial : e'.initial ≡ cut_walls n given
  pub outgoing : Every (λ r. r.kind ≡ Outgoing) e'.rays
  pub proper : Every (IsWall n) e'.rays
  pub reduced : IsReduced e'.rays
  pub added : (p : Point) (d : Exp) (k : Key) → IsDirection d → (g : ℤ) → pos 1 ≤ℤ g → k.exp ≡ scale g d →
      (v : ℤ) × IsAdded corrections p k v × (ray_coef e'.rays p d k ≡ ray_coef e.rays p d k +ℤ v)

-- e with its incoming rays cut to degree n + 1 instead
abbrev pub raised : List Wall → ℕ → Diagram → Diagram
raised given n e = record e { initial = map (λ w. cond (is_incoming w.kind) (cut_wall (n + 1) w) (cut_wall n w)) given }

pub record AreCorrections (ws : List Wall) (n : ℕ) (cs : Corrections) : Type 0 where
  pub each : Every (λ c. IsPoint c.0 × IsTrue (is_active n ws c.0) × IsCorrection ws c.0 n c.1) cs
  pub all : (p : Point) → IsPoint p → IsTrue (is_active n ws p) → In p (map (λ c. c.0) cs)
  pub sorted : EveryPair (λ c d. IsTrue (point_before c.0 d.0)) cs

-- corrections that can be merged at degree n: at points in order, of degree n alone, and whole
pub record AreMergeable (n : ℕ) (cs : Corrections) : Type 0 where
  pub points : Every (λ c. IsPoint c.0) cs
  pub sorted : EveryPair (λ c d. IsTrue (point_before c.0 d.0)) cs
  pub distinct : Every (λ c. EveryPair (λ t u. t.0 ≢ u.0) c.1) cs
  pub degrees : Every (λ c. Every (λ t. (degree t.0 ≡ n) × (t.0.exp ≢ origin)) c.1) cs
  pub whole : Every (λ c. Every IsWhole c.1) cs
