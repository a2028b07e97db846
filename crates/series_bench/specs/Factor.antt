-- Sums of few terms with small coefficients, as a factor and its parts are.
use Rattle.std.specs.Prelude.{◌≡◌, ℕ, ◌*◌, ◌≤◌, ◌^◌}
use Rattle.limits.specs.Limits.{highest_order}
use Rattle.scattering.specs.Series.{mass_to}
use Rattle.trunc_series.specs.Shown.{Seen, HasNearTerms}

-- a series of order 24 that is the sum of `count` terms, each with a coefficient of at most 2^20 in absolute value
pub record IsPart (count : ℕ) (s : Seen) : Type 0 where
  pub order : s.order ≡ highest_order
  pub near : HasNearTerms s.terms
  pub mass : mass_to highest_order s.terms ≤ count * 2 ^ 20
