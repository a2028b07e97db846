-- Families of theta functions as lists of the program.
--     family_of ps              the family that the list ps says
--     IsFamilyOf ws k l r q ps  ps is the family of the product of the thetas of l and r at q, as it is answered
use Rattle.std.specs.Prelude.{◌≡◌, ◌≢◌, ℕ, ◌≤◌, nat_abs, List, [], map, flat_map, IsTrue}
use Rattle.limits.specs.Limits.{largest_given_exponent}
use Rattle.scattering.specs.Collections.{Every, EveryPair}
use Rattle.scattering.specs.Series.{Exp, Sum, origin, exp_before}
use Rattle.scattering.specs.Plane.{Point}
use Rattle.scattering.specs.Wall.{Wall}
use Rattle.scattering.specs.ThetaProduct.{IsFamily}
use Rattle.trunc_series.specs.Shown.{exp_of, Seen}
use Rattle.trunc_series.specs.declared.key.Exp.{Exp as CodeExp}

-- the exponents of the thetas that are multiplied
abbrev pub largest_factor : ℕ
largest_factor = largest_given_exponent

abbrev pub IsFactorExp : CodeExp → Type 0
IsFactorExp m = (nat_abs m.a ≤ largest_factor) × (nat_abs m.b ≤ largest_factor)

-- the terms of the family by the series at r
abbrev pub at_exp : Exp → Sum → Sum
at_exp r f = map (λ t. (record { powers = t.0.powers; exp = r }, t.1)) f

abbrev pub family_of : List (CodeExp × Seen) → Sum
family_of ps = flat_map (λ p. at_exp (exp_of p.0) p.1.terms) ps

-- a series of order k in the powers of t alone, other than 0
pub record IsCoefficient (k : ℕ) (s : Seen) : Type 0 where
  pub order : s.order ≡ k
  pub plain : Every (λ t. t.0.exp ≡ origin) s.terms
  pub some : s.terms ≢ []

pub record IsFamilyOf (ws : List Wall) (k : ℕ) (l r : Exp) (q : Point) (ps : List (CodeExp × Seen)) : Type 0 where
  pub family : IsFamily ws k l r q (family_of ps)
  pub sorted : EveryPair (λ p p'. IsTrue (exp_before (exp_of p.0) (exp_of p'.0))) ps
  pub each : Every (λ p. IsCoefficient k p.1) ps
