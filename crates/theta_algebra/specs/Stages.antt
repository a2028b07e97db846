-- The stages of a product: what is so before each step.
--     GrowsFrom c x                     no number of the exponent of x is above c and 64 for each degree
--     IsStage ws k q s first d a remains n d steps without a fault led to the family a, of the running weight n, that leaves `remains` of s
use Rattle.std.specs.Prelude.{ℕ, ◌+◌, ◌*◌, ◌≤◌, nat_abs, List, ◌++◌}
use Rattle.limits.specs.Limits.{largest_weight, exponent_per_degree}
use Rattle.scattering.specs.Collections.{Every}
use Rattle.scattering.specs.Series.{Exp, Key, Term, Sum, degree, coef, minus}
use Rattle.scattering.specs.Plane.{Point}
use Rattle.scattering.specs.Wall.{Wall}
use Rattle.scattering.specs.ThetaProduct.{combined, AreThetas, Runs}
use Rattle.trunc_series.specs.Reduced.{IsKeptAs}
use Rattle.trunc_series.specs.declared.arithmetic.Arithmetic.TheVariants.{Wrapping}
use Rattle.theta_algebra.specs.Families.{largest_factor}

abbrev pub GrowsFrom : ℕ → Key → Type 0
GrowsFrom c x = (nat_abs x.exp.a ≤ c + exponent_per_degree * degree x) × (nat_abs x.exp.b ≤ c + exponent_per_degree * degree x)

-- the exponents of two factors together
abbrev pub GrowsFromFactors : Term → Type 0
GrowsFromFactors t = GrowsFrom (2 * largest_factor) t.0

abbrev pub IsLightTerm : Term → Type 0
IsLightTerm t = nat_abs t.1 ≤ largest_weight

pub record IsStage (ws : List Wall) (k : ℕ) (q : Point) (s : Sum) (first d : ℕ) (a remains : Sum) (n : ℕ) : Type 0 where
  pub runs : Runs ws k q s first d a n
  pub light : n ≤ largest_weight
  pub left : (thetas : Exp → Sum) → AreThetas ws k q a thetas → IsKeptAs Wrapping k remains (s ++ minus (combined k thetas a))
  pub small : Every IsLightTerm a
  pub within : Every GrowsFromFactors a
  pub near : Every GrowsFromFactors remains
  pub product : (y : Key) → degree y ≤ k → nat_abs (coef s y) ≤ first
