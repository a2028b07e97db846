-- What corrections add to rays.
--     IsAddedValue t v         v is -g·c for a term c·z^m of a correction, where g = gcd(m)
--     AreAdded h f             f has these values of the terms of h, at their keys and in their order
--     IsRayTerm n t             t can be added to a ray at order n
--     IsAddable n h            what one of the corrections that can be merged meets
--     IsLight h                no whole value g·c of h is above 2^126 in absolute value
--     IsTameElement n h               no exponent of h is above 64·n
--     terms_along d f          the terms of f whose exponents are positive multiples of d
--     corrections_of cs        the corrections of the program
use Rattle.std.specs.Prelude.{◌≡◌, ◌≢◌, ◌⊎◌, ℕ, ◌*◌, ◌≤◌, ◌++◌, nat_abs, Bool, ◌&&◌, ℤ, pos, neg_ℤ, ◌*ℤ◌, int_le, List, [], ◌∷◌, map, filter}
use Rattle.std.specs.Int.{IsGcd}
use Rattle.scattering.specs.Collections.{Every, EveryPair}
use Rattle.scattering.specs.Series.{Exp, Key, Term, Sum, int_eq, det, dot, degree, origin, one, mass_to}
use Rattle.scattering.specs.Plane.{IsDirection}
use Rattle.scattering.specs.Correction.{Ratio, Lie, Corrections, IsWhole}
use Rattle.plane_geom.specs.declared.Point.{Point as CodePoint}
use Rattle.plane_geom.specs.Shown.{point_of}
use Rattle.weight_theory.specs.Laws.{IsWholeValue}
use Rattle.limits.specs.Limits.{largest_weight, largest_mass, exponent_per_degree}

abbrev pub IsAddedValue : Key × Ratio → ℤ → Type 0
IsAddedValue t v = (g : ℕ) × IsGcd (nat_abs t.0.exp.a) (nat_abs t.0.exp.b) g × (v *ℤ t.1.den ≡ neg_ℤ (pos g *ℤ t.1.num))

abbrev pub AreAdded : Lie → Sum → Type 0
AreAdded [] [] = Unit {0}
AreAdded [] (u ∷ f) = ⊥
AreAdded (t ∷ h) [] = ⊥
AreAdded (t ∷ h) (u ∷ f) = (u.0 ≡ t.0) × IsAddedValue t u.1 × AreAdded h f

-- no exponent is above 64·n
abbrev pub IsTameKey : ℕ → Key → Type 0
IsTameKey n k = (nat_abs k.exp.a ≤ exponent_per_degree * n) × (nat_abs k.exp.b ≤ exponent_per_degree * n)

pub record IsRayTerm (n : ℕ) (t : Term) : Type 0 where
  pub nonzero : t.1 ≢ pos 0
  pub small : nat_abs t.1 ≤ largest_weight
  pub degree : degree t.0 ≡ n
  pub exponent : t.0.exp ≢ origin
  pub tame : IsTameKey n t.0

-- g is f with 1 before or behind
abbrev pub IsWithOne : Sum → Sum → Type 0
IsWithOne f g = (g ≡ one ++ f) ⊎ (g ≡ f ++ one)

-- a correction of degree n alone, and whole
pub record IsAddable (n : ℕ) (h : Lie) : Type 0 where
  pub distinct : EveryPair (λ t u. t.0 ≢ u.0) h
  pub degrees : Every (λ t. (degree t.0 ≡ n) × (t.0.exp ≢ origin)) h
  pub whole : Every IsWhole h

abbrev pub IsLight : Lie → Type 0
IsLight h = Every (λ t. (v : ℤ) → IsWholeValue t v → nat_abs v ≤ largest_weight) h

abbrev pub IsTameElement : ℕ → Lie → Type 0
IsTameElement n h = Every (λ t. IsTameKey n t.0) h

-- a positive multiple of d
abbrev pub is_along : Exp → Exp → Bool
is_along d e = int_eq (det d e) (pos 0) && int_le (pos 1) (dot d e)

abbrev pub terms_along : Exp → Sum → Sum
terms_along d f = filter (λ t. is_along d t.0.exp) f

-- 1 with the terms along any one direction is light enough for a wall
abbrev pub IsLightAlong : ℕ → Sum → Type 0
IsLightAlong n f = (d : Exp) → IsDirection d → mass_to n (one ++ terms_along d f) ≤ largest_mass

abbrev pub corrections_of : List (CodePoint × Lie) → Corrections
corrections_of cs = map (λ c. (point_of c.0, c.1)) cs
