-- What a list of terms stands for, whose coefficients are kept modulo 2^128 or as the lesser of their value and a limit.
--     StandsFor rule f g            f is a list of terms for the sum g
--     IsSortedFor rule r f          r is a series for the sum f
--     CanMultiply rule t row        t can be multiplied by each term of the row
--     row_sum t keys values         these products, for the row of these keys and coefficients
--     AddsRow rule old new t ..     the new terms stand for the old ones and these products
--     IsPlaceOf f k i               the i-th term of f has the key k, or i is the number of terms
use Rattle.std.specs.Prelude.{◌≡◌, ◌≤◌, ◌<◌, ℕ, ℤ, List, ◌++◌, map, zip, length, slice_index_or}
use Rattle.limits.specs.Limits.{highest_order}
use Rattle.scattering.specs.Collections.{In, Every}
use Rattle.scattering.specs.Series.{Key, Term, Sum, coef, degree, term_mul}
use Rattle.trunc_series.specs.declared.key.Key.{Key as CodeKey}
use Rattle.trunc_series.specs.declared.arithmetic.Arithmetic.{Arithmetic}
use Rattle.trunc_series.specs.Shown.{key_of, term_of, sum_of}
use Rattle.trunc_series.specs.Arithmetic.{kept, IsKeepable}
use Rattle.trunc_series.specs.Reduced.{Terms, IsKeptAs, IsNearKey, RowFits}

-- a number as it is kept
abbrev pub IsKeptValue : Arithmetic → ℤ → Type 0
IsKeptValue rule c = (kept rule c ≡ c) × IsKeepable rule c

-- so is each coefficient
abbrev pub AreKeptValues : Arithmetic → Sum → Type 0
AreKeptValues rule f = Every (λ t. IsKeptValue rule t.1) f

-- each coefficient of f is kept as that of g is, and f has no key that g hasn't
pub record StandsFor (rule : Arithmetic) (f g : Sum) : Type 0 where
  pub values : AreKeptValues rule f
  pub keepable : Every (λ t. IsKeepable rule t.1) g
  pub same : (k : Key) → kept rule (coef f k) ≡ kept rule (coef g k)
  pub keys : Every (λ t. In t.0 (map (λ u. u.0) g)) f

-- to any order that bounds the degrees of f, r is the series that f is
abbrev pub IsSortedFor : Arithmetic → Sum → Sum → Type 0
IsSortedFor rule r f = (n : ℕ) → Every (λ t. degree t.0 ≤ n) f → IsKeptAs rule n r f

-- degrees, exponents and coefficients of t and the row allow their products
pub record CanMultiply (rule : Arithmetic) (t : CodeKey × ℤ) (row : Terms) : Type 0 where
  pub near : IsNearKey (key_of t.0)
  pub keepable : IsKeepable rule t.1
  pub keys : Every (λ u. IsNearKey u.0) (sum_of row)
  pub values : Every (λ u. IsKeepable rule u.1) (sum_of row)
  pub degrees : RowFits highest_order t row

-- t times each term of the row whose keys and coefficients stand side by side
abbrev pub row_sum : CodeKey × ℤ → List CodeKey → List ℤ → Sum
row_sum t keys values = map (term_mul (term_of t)) (sum_of (zip keys values))

-- the new terms stand for the old ones and the products of t with the row
abbrev pub AddsRow : Arithmetic → Sum → Sum → CodeKey × ℤ → List CodeKey → List ℤ → Type 0
AddsRow rule old new t keys values = StandsFor rule new (row_sum t keys values ++ old)

abbrev pub IsPlaceOf : Sum → Key → ℕ → Type 0
IsPlaceOf f k i = (i ≤ length f) × ((d : Term) → i < length f → (slice_index_or f i d).0 ≡ k)
