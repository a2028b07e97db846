-- The terms of a sum to each degree, as rows that terms are multiplied by.
--     IsLowRow d u r         the row r has the terms of u of degree at most d
--     AreLowRows u d rows    the rows are those of u to the degrees d, d + 1, ..
--     IsFactorTo n rows      they are those of one sum to each degree from 0 to n
use Rattle.std.specs.Prelude.{◌≡◌, ℕ, suc, ◌+◌, ◌≤◌, List, [], ◌∷◌, zip, length}
use Rattle.limits.specs.Limits.{highest_order}
use Rattle.scattering.specs.Collections.{Every}
use Rattle.scattering.specs.Series.{Sum, cut}
use Rattle.trunc_series.specs.declared.arithmetic.Arithmetic.{Arithmetic}
use Rattle.trunc_series.specs.declared.low_rows.Row.{Row}
use Rattle.trunc_series.specs.Shown.{sum_of}
use Rattle.trunc_series.specs.Arithmetic.{IsKeepable}
use Rattle.trunc_series.specs.Reduced.{IsNearKey}

abbrev pub row_terms : Row → Sum
row_terms r = sum_of (zip r.keys.items r.values.items)

pub record IsLowRow (d : ℕ) (u : Sum) (r : Row) : Type 0 where
  pub lengths : length r.keys.items ≡ length r.values.items
  pub terms : row_terms r ≡ cut d u

abbrev pub AreLowRows : Sum → ℕ → List Row → Type 0
AreLowRows u d [] = Unit {0}
AreLowRows u d (r ∷ rows) = IsLowRow d u r × AreLowRows u (suc d) rows

-- the last row has all terms
abbrev pub all_terms : List Row → Sum
all_terms [] = []
all_terms (r ∷ []) = row_terms r
all_terms (r ∷ s ∷ rows) = all_terms (s ∷ rows)

pub record IsFactorTo (n : ℕ) (rows : List Row) : Type 0 where
  pub order : n ≤ highest_order
  pub count : length rows ≡ n + 1
  pub each : AreLowRows (all_terms rows) 0 rows

-- exponents and coefficients allow products with other such terms
pub record CanBeFactor (rule : Arithmetic) (f : Sum) : Type 0 where
  pub near : Every (λ t. IsNearKey t.0) f
  pub keepable : Every (λ t. IsKeepable rule t.1) f
