-- Series with coefficients of at least 0, each kept as the lesser of its value and 2^126 + 1.
--     IsMajorant n f           what each value keeps
--     IsMajorantOf m n f       m is the series of order n with the coefficients of f as they are kept
use Rattle.std.specs.Prelude.{◌≡◌, ℕ, ◌≤◌, ◌⊎◌, pos, ◌≤ℤ◌}
use Rattle.std.specs.Int.{int_min}
use Rattle.limits.specs.Limits.{highest_order}
use Rattle.scattering.specs.Collections.{Every}
use Rattle.scattering.specs.Series.{Key, Sum, IsSeries, coef, degree, rest, pow, geometric}
use Rattle.trunc_series.specs.Shown.{Seen, HasNearKeys}
use Rattle.trunc_series.specs.Arithmetic.{limit}

pub record IsMajorant (n : ℕ) (f : Sum) : Type 0 where
  pub order : n ≤ highest_order
  pub series : IsSeries n f
  pub range : Every (λ t. (pos 0 ≤ℤ t.1) × (t.1 ≤ℤ limit)) f

pub record IsMajorantOf (m : Seen) (n : ℕ) (f : Sum) : Type 0 where
  pub order : m.order ≡ n
  pub series : IsSeries n m.terms
  pub capped : (k : Key) → coef m.terms k ≡ int_min (coef f k) limit

-- 1/(2 - f)
abbrev pub geometric_series : Seen → Sum
geometric_series s = geometric s.order s.terms

-- all terms but the constant one have degree at least 1, or the exponents of the i-th power are within 2^16
abbrev pub IsPowerNear : Seen → ℕ → Type 0
IsPowerNear s i = Every (λ t. 1 ≤ degree t.0) (rest s.terms) ⊎ HasNearKeys (pow s.order s.terms i)
