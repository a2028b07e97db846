-- Series as the definitions see them.
--     key_of, sum_of           a key, and a list of terms, of the program
--     Seen                     what contracts see of a series: its order and its terms
--     IsSeriesOf s n f         s is the series of order n with the coefficients of f
use Rattle.std.specs.Prelude.{◌≡◌, ℕ, ◌+◌, ◌<◌, ◌≤◌, ◌^◌, ◌≢◌, ℤ, pos, negsuc, suc, nat_abs, List, map, slice_index}
use Rattle.limits.specs.Limits.{highest_order, largest_exponent}
use Rattle.scattering.specs.Collections.{Every}
use Rattle.scattering.specs.Series.{Exp, Powers, Key, Term, Sum, IsSeries, Same, coef, degree, mul, pow, absolute, geometric, mass_to}
use Rattle.trunc_series.specs.declared.key.Exp.{Exp as CodeExp}
use Rattle.trunc_series.specs.declared.key.Key.{Key as CodeKey}

abbrev pub exp_of : CodeExp → Exp
exp_of e = record { a = e.a; b = e.b }

abbrev pub powers_of : List ℕ → Powers
powers_of ps = record { t1 = slice_index ps 0; t2 = slice_index ps 1; t3 = slice_index ps 2; t4 = slice_index ps 3; t5 = slice_index ps 4; t6 = slice_index ps 5; t7 = slice_index ps 6; t8 = slice_index ps 7 }

abbrev pub key_of : CodeKey → Key
key_of k = record { powers = powers_of k.powers; exp = exp_of k.exp }

abbrev pub term_of : CodeKey × ℤ → Term
term_of t = (key_of t.0, t.1)

abbrev pub sum_of : List (CodeKey × ℤ) → Sum
sum_of ts = map term_of ts

-- what contracts see of a series
pub record Seen : Type 0 where
  pub order : ℕ
  pub terms : Sum

-- the one series of order n that has the coefficients of f
pub record IsSeriesOf (s : Seen) (n : ℕ) (f : Sum) : Type 0 where
  pub order : s.order ≡ n
  pub series : IsSeries n s.terms
  pub same : Same s.terms f

-- a term of a series of order n
abbrev pub IsTerm : ℕ → Term → Type 0
IsTerm n t = (t.1 ≢ pos 0) × (nat_abs t.1 < 2 ^ 127) × (degree t.0 ≤ n)

-- what each value keeps; with the least number of 128 bits left out, absolute values fit too
pub record IsValid (n : ℕ) (f : Sum) : Type 0 where
  pub order : n ≤ highest_order
  pub series : IsSeries n f
  pub small : Every (λ t. nat_abs t.1 < 2 ^ 127) f

-- no exponent is above 2^16 in absolute value
abbrev pub HasNearTerms : Sum → Type 0
HasNearTerms f = Every (λ t. (nat_abs t.0.exp.a ≤ largest_exponent) × (nat_abs t.0.exp.b ≤ largest_exponent)) f

-- no exponent that f has is above 2^16 in absolute value
abbrev pub HasNearKeys : Sum → Type 0
HasNearKeys f = (k : Key) → coef f k ≢ pos 0 → (nat_abs k.exp.a ≤ largest_exponent) × (nat_abs k.exp.b ≤ largest_exponent)

-- what bounds the powers of f: those of |f|, or of 1/(2 - |f|)
abbrev pub majorant_power : ℕ → Sum → ℤ → Sum
majorant_power n f (pos i) = pow n (absolute f) i
majorant_power n f (negsuc i) = pow n (geometric n f) (suc i)

-- ---- what operations on series give, and the masses that bound them

abbrev pub product_of : Seen → Seen → Sum
product_of s t = mul s.order s.terms t.terms

abbrev pub sum_mass : Seen → Seen → ℕ
sum_mass s t = mass_to s.order s.terms + mass_to t.order t.terms

abbrev pub product_mass : Seen → Seen → ℕ
product_mass s t = mass_to s.order (mul s.order (absolute s.terms) (absolute t.terms))

abbrev pub power_mass : Seen → ℤ → ℕ
power_mass s i = mass_to s.order (majorant_power s.order s.terms i)
