-- Parts of one degree, as lists of terms of the program.
--     IsPartOf rule i p g       the terms p are the part of degree i of the sum g, as coefficients are kept
--     GrowsBy s f               no exponent of f is above s times its degree
--     multiplier rule k f n     the power by which a crossing multiplies, or its majorant does
use Rattle.std.specs.Prelude.{◌≡◌, ℕ, ◌*◌, ◌≤◌, nat_abs, ℤ}
use Rattle.scattering.specs.Collections.{Every}
use Rattle.scattering.specs.Series.{Key, Sum, coef, degree, pow, power, geometric}
use Rattle.trunc_series.specs.declared.arithmetic.Arithmetic.{Arithmetic}
use Rattle.trunc_series.specs.declared.arithmetic.Arithmetic.TheVariants.{Wrapping, Saturating}
use Rattle.trunc_series.specs.Arithmetic.{kept, IsKeepable}
use Rattle.trunc_series.specs.Sums.{AreKeptValues}

-- a key may stand twice
pub record IsPartOf (rule : Arithmetic) (i : ℕ) (p g : Sum) : Type 0 where
  pub values : AreKeptValues rule p
  pub degrees : Every (λ t. degree t.0 ≡ i) p
  pub keepable : Every (λ t. IsKeepable rule t.1) g
  pub same : (k : Key) → degree k ≡ i → kept rule (coef p k) ≡ kept rule (coef g k)

abbrev pub GrowsBy : ℕ → Sum → Type 0
GrowsBy s f = Every (λ t. (nat_abs t.0.exp.a ≤ s * degree t.0) × (nat_abs t.0.exp.b ≤ s * degree t.0)) f

abbrev pub multiplier : Arithmetic → ℕ → Sum → ℤ → Sum
multiplier Wrapping k f n = power k f n
multiplier Saturating k f n = pow k (geometric k f) (nat_abs n)
