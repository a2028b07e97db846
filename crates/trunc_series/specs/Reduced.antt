-- A sorted list of terms that stands for a sum, as the crate's own functions hand it on.
use Rattle.std.specs.Prelude.{◌≡◌, ℕ, ◌+◌, ◌*◌, ◌<◌, ◌≤◌, ◌^◌, cond, pos, nat_abs, IsTrue, ℤ, ◌+ℤ◌, List, [], ◌∷◌, ◌++◌, map}
use Rattle.std.specs.declared.cmp.Ordering.{Ordering}
use Rattle.std.specs.declared.cmp.Ordering.TheVariants.{Less, Equal, Greater}
use Rattle.limits.specs.Limits.{largest_exponent}
use Rattle.scattering.specs.Collections.{Every, EveryPair}
use Rattle.scattering.specs.Series.{Key, Sum, IsSeries, int_eq, key_before, coef, degree, mul, pow, powers_to, inverse}
use Rattle.trunc_series.specs.declared.arithmetic.Arithmetic.{Arithmetic}
use Rattle.trunc_series.specs.declared.key.Key.{Key as CodeKey}
use Rattle.trunc_series.specs.declared.arithmetic.Arithmetic.TheVariants.{Wrapping, Saturating}
use Rattle.trunc_series.specs.Shown.{key_of, sum_of}
use Rattle.trunc_series.specs.Arithmetic.{kept, IsKeepable}

-- how two keys stand
abbrev pub key_order : Key → Key → Ordering
key_order k l = cond (key_before k l) Less (cond (key_before l k) Greater Equal)

-- f is a series of order n, and each of its coefficients is that of g as it is kept
pub record IsKeptAs (rule : Arithmetic) (n : ℕ) (f g : Sum) : Type 0 where
  pub series : IsSeries n f
  pub keeps : Every (λ t. (kept rule t.1 ≡ t.1) × IsKeepable rule t.1) f
  pub keepable : Every (λ t. IsKeepable rule t.1) g
  pub same : (k : Key) → kept rule (coef f k) ≡ kept rule (coef g k)

-- a term, or none where its coefficient is 0
abbrev pub unless_zero : CodeKey × ℤ → List (CodeKey × ℤ)
unless_zero t = cond (int_eq t.1 (pos 0)) [] (t ∷ [])

-- what comes first of two terms whose keys stand in this order
abbrev pub first_terms : Arithmetic → Ordering → CodeKey × ℤ → CodeKey × ℤ → List (CodeKey × ℤ)
first_terms rule Less t u = t ∷ []
first_terms rule Equal t u = unless_zero (t.0, kept rule (t.1 +ℤ u.1))
first_terms rule Greater t u = u ∷ []

-- an exponent that can be added to another in an i32
abbrev pub IsNearKey : Key → Type 0
IsNearKey k = (nat_abs k.exp.a < 2 ^ 29) × (nat_abs k.exp.b < 2 ^ 29)

-- a sorted list that is multiplied
pub record IsFactor (rule : Arithmetic) (f : Sum) : Type 0 where
  pub rises : EveryPair (λ t u. IsTrue (key_before t.0 u.0)) f
  pub keepable : Every (λ t. IsKeepable rule t.1) f
  pub near : Every (λ t. IsNearKey t.0) f

-- the absolute values of the coefficients, as they are kept
abbrev pub absolute_sum : Sum → Sum
absolute_sum f = map (λ t. (t.0, kept Saturating (pos (nat_abs t.1)))) f

-- no exponent grows faster than the degree
abbrev pub GrowsSlowly : Key → Type 0
GrowsSlowly k = (nat_abs k.exp.a ≤ degree k * largest_exponent) × (nat_abs k.exp.b ≤ degree k * largest_exponent)

-- the exponents of the powers up to the m-th can be added to another in an i32
abbrev pub ArePowersNear : ℕ → Sum → ℕ → Type 0
ArePowersNear n f m = (i : ℕ) → i ≤ m → Every (λ t. IsNearKey t.0) (pow n f i)

-- ---- what lists of terms of the program stand for

abbrev pub Terms : Type 0
Terms = List (CodeKey × ℤ)

-- wherever the operands stand for sums, r stands for their sum
abbrev pub AddsUp : Arithmetic → Terms → Terms → Terms → Type 0
AddsUp rule a b r =
    (n : ℕ) (f g : Sum) → IsKeptAs rule n (sum_of a) f → IsKeptAs rule n (sum_of b) g → IsKeptAs rule n (sum_of r) (f ++ g)

-- t times each term of b has a degree of at most n
abbrev pub RowFits : ℕ → CodeKey × ℤ → Terms → Type 0
RowFits n t b = Every (λ u. degree (key_of t.0) + degree u.0 ≤ n) (sum_of b)

abbrev pub IsProduct : Arithmetic → ℕ → Terms → Terms → Terms → Type 0
IsProduct rule n a b r = IsKeptAs rule n (sum_of r) (mul n (sum_of a) (sum_of b))

-- 1 + g + .. + g^n
abbrev pub SumsPowers : Arithmetic → ℕ → Terms → Terms → Type 0
SumsPowers rule n g r = IsKeptAs rule n (sum_of r) (powers_to n (sum_of g) n)

-- 1/f^i
abbrev pub IsInversePower : ℕ → Terms → ℕ → Terms → Type 0
IsInversePower n f i r = IsKeptAs Wrapping n (sum_of r) (pow n (inverse n (sum_of f)) i)

abbrev pub AreCollected : ℕ → Terms → Terms → Type 0
AreCollected n terms r = IsKeptAs Wrapping n (sum_of r) (sum_of terms)
