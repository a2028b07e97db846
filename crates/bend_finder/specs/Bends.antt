-- The bends at points, by the walls ls.
--     IsTurn n ls x c          c has the key of a term of |F|^n there, of degree from 1 to n
--     AreBends n ls x qs bs    bs are these bends at those of the points qs that aren't special, with their weights, sorted
--     told_bends q m           the bends at q by the terms of the majorant m
use Rattle.std.specs.Prelude.{◌≡◌, ◌≢◌, ℕ, ◌+◌, ◌≤◌, nat_le, min, cond, nat_abs, ℤ, pos, ◌≤ℤ◌, IsTrue, IsFalse, List, map, filter, length, Option, Some, None, slice_index}
use Rattle.limits.specs.Limits.{largest_weight}
use Rattle.scattering.specs.Collections.{In, Every, EveryPair, IsLeast}
use Rattle.scattering.specs.Series.{Exp, Term, Sum, coef, degree, mass_to}
use Rattle.scattering.specs.Plane.{Point, point_before}
use Rattle.scattering.specs.Wall.{Wall}
use Rattle.scattering.specs.ActivePoint.{is_special}
use Rattle.scattering.specs.BrokenLine.{Bend, bend_majorant}
use Rattle.scattering.specs.Tail.{bend_before}
use Rattle.plane_geom.specs.Shown.{point_of}
use Rattle.plane_geom.specs.declared.Point.{Point as CodePoint}
use Rattle.trunc_series.specs.Arithmetic.{limit}
use Rattle.joint_finder.specs.Joints.{points_of}
use Rattle.bend_finder.specs.Ahead.{IsToldAs}

-- coefficients as majorants keep them
abbrev pub IsCapped : ℤ → Type 0
IsCapped c = (pos 0 ≤ℤ c) × (c ≤ℤ limit)

abbrev pub AreCapped : Sum → Type 0
AreCapped f = Every (λ t. IsCapped t.1) f

-- a mass as it is told
abbrev pub told_mass : ℕ → Sum → ℕ
told_mass d f = min (mass_to d f) (largest_weight + 1)

-- m with a term of degree at most d
abbrev pub grown_mass : ℕ → ℕ → Term → ℕ
grown_mass d m t = cond (nat_le (degree t.0) d) (min (m + nat_abs t.1) (largest_weight + 1)) m

pub record AreMasses (n : ℕ) (f : Sum) (ms : List ℕ) : Type 0 where
  pub count : length ms ≡ n + 1
  pub each : (d : ℕ) → d ≤ n → slice_index ms d ≡ told_mass d f

-- those by the terms g of f
abbrev pub bends_among : Point → Sum → Sum → List (Bend × ℕ)
bends_among q f g = map (λ t. (record { at = q; key = t.0 }, told_mass (degree t.0) f)) (filter (λ t. nat_le 1 (degree t.0)) g)

abbrev pub told_bends : Point → Sum → List (Bend × ℕ)
told_bends q f = bends_among q f f

-- ---- at points

pub record IsTurn (n : ℕ) (ls : List Wall) (x : Exp) (c : Bend) : Type 0 where
  pub some : 1 ≤ degree c.key
  pub most : degree c.key ≤ n
  pub plain : IsFalse (is_special ls c.at)
  pub key : coef (bend_majorant n ls c.at x) c.key ≢ pos 0

pub record AreBends (n : ℕ) (ls : List Wall) (x : Exp) (qs : List Point) (bs : List (Bend × ℕ)) : Type 0 where
  pub each : Every (λ c. In c.0.at qs × IsTurn n ls x c.0) bs
  pub all : (c : Bend) → In c.at qs → IsTurn n ls x c → In c (map (λ b. b.0) bs)
  pub told : Every (λ c. IsToldAs (mass_to (degree c.0.key) (bend_majorant n ls c.0.at x)) c.1) bs
  pub sorted : EveryPair (λ c d. IsTrue (bend_before c.0 d.0)) bs

-- the first of the points that is special, where they are sorted
abbrev pub IsFirstSpecial : List Wall → List CodePoint → Option CodePoint → Type 0
IsFirstSpecial ls ps None = (q : Point) → In q (points_of ps) → IsFalse (is_special ls q)
IsFirstSpecial ls ps (Some r) = IsLeast point_before (λ q. In q (points_of ps) × IsTrue (is_special ls q)) (point_of r)
