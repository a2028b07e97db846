-- The bracket of Lie elements with rational coefficients, and when each number on the way to it fits.
--     products n f g           the terms det(a, b)·c·c'·z^(a + b) of all pairs of terms, but those of determinant 0 or degree above n
--     sum_from s rs            the sum of a rational number and a list of them
--     IsBracketOf n f g h      h is the bracket of f and g, without terms of degree above n
--     BracketFits n f g        each term_product, and each sum along the products of one key, is within 128 bits
-- A ratio may be written in other than lowest terms here; `AreSame` says that two are one number.
use Rattle.std.specs.Prelude.{◌≡◌, ◌≢◌, ℕ, ◌+◌, nat_le, Bool, false, cond, not, ◌&&◌, IsTrue, ℤ, pos, ◌+ℤ◌, ◌*ℤ◌, List, [], ◌∷◌, ◌++◌, map, filter, flat_map}
use Rattle.scattering.specs.Collections.{Every, EveryPair}
use Rattle.scattering.specs.Series.{Key, origin, int_eq, det, degree, key_mul, key_eq, key_before}
use Rattle.scattering.specs.Correction.{Ratio, Lie, ratio_at}
use Rattle.frac_128.specs.Quotient.{IsLowest, AreEqual, SumFits, LowestFits}
use Rattle.vertex_lie.specs.Shown.{of_key, IsElement}
use Rattle.vertex_lie.specs.declared.fault.LieFault.{LieFault}
use Rattle.vertex_lie.specs.declared.fault.LieFault.TheVariants.{Range}

abbrev pub AreSame : Ratio → Ratio → Type 0
AreSame r s = AreEqual r.num r.den s.num s.den

-- ---- products

abbrev pub term_product : Key × Ratio → Key × Ratio → Key × Ratio
term_product t u = (key_mul t.0 u.0, record { num = det t.0.exp u.0.exp *ℤ (t.1.num *ℤ u.1.num); den = t.1.den *ℤ u.1.den })

abbrev pub is_kept : ℕ → Key → Key → Bool
is_kept n k l = not (int_eq (det k.exp l.exp) (pos 0)) && nat_le (degree k + degree l) n

abbrev pub row : ℕ → Key × Ratio → Lie → Lie
row n t g = map (term_product t) (filter (λ u. is_kept n t.0 u.0) g)

abbrev pub products : ℕ → Lie → Lie → Lie
products n f g = flat_map (λ t. row n t g) f

-- the term_product of the coefficients, and that times the determinant, fit in lowest terms
abbrev pub ProductFits : Key × Ratio → Key × Ratio → Type 0
ProductFits t u = LowestFits (t.1.num *ℤ u.1.num) (t.1.den *ℤ u.1.den) × LowestFits (det t.0.exp u.0.exp *ℤ (t.1.num *ℤ u.1.num)) (t.1.den *ℤ u.1.den)

abbrev pub PairFits : ℕ → Key × Ratio → Key × Ratio → Type 0
PairFits n t u = IsTrue (is_kept n t.0 u.0) → ProductFits t u

abbrev pub RowProductsFit : ℕ → Key × Ratio → Lie → Type 0
RowProductsFit n t g = Every (PairFits n t) g

-- ---- sums

abbrev pub zero_ratio : Ratio
zero_ratio = record { num = pos 0; den = pos 1 }

abbrev pub plus : Ratio → Ratio → Ratio
plus r s = record { num = r.num *ℤ s.den +ℤ s.num *ℤ r.den; den = r.den *ℤ s.den }

abbrev pub sum_from : Ratio → List Ratio → Ratio
sum_from s [] = s
sum_from s (r ∷ rs) = sum_from (plus s r) rs

-- the numbers on the way to the sum of both, each in lowest terms, fit
abbrev pub AddFits : Ratio → Ratio → Type 0
AddFits r s = (a b c d : ℤ) → IsLowest a b → AreEqual a b r.num r.den → IsLowest c d → AreEqual c d s.num s.den → SumFits a b c d

-- each sum along the list fits
abbrev pub SumsFit : Ratio → List Ratio → Type 0
SumsFit s [] = Unit {0}
SumsFit s (r ∷ rs) = AddFits s r × SumsFit (plus s r) rs

-- the coefficients of the terms of a key
abbrev pub values_at : Key → Lie → List Ratio
values_at k h = map (λ t. t.1) (of_key k h)

-- ---- the bracket

pub record IsBracketOf (n : ℕ) (f g h : Lie) : Type 0 where
  pub element : IsElement h
  pub same : (k : Key) → AreSame (ratio_at h k) (sum_from zero_ratio (values_at k (products n f g)))

pub record BracketFits (n : ℕ) (f g : Lie) : Type 0 where
  pub pairs : Every (λ t. RowProductsFit n t g) f
  pub sums : (k : Key) → SumsFit zero_ratio (values_at k (products n f g))

-- ---- how it is made

-- the same keys, and the same numbers
abbrev pub AreValues : Lie → Lie → Type 0
AreValues [] [] = Unit {0}
AreValues [] (u ∷ h) = ⊥
AreValues (t ∷ f) [] = ⊥
AreValues (t ∷ f) (u ∷ h) = (t.0 ≡ u.0) × AreSame u.1 t.1 × AreValues f h

abbrev pub kept_product : ℕ → Key × Ratio → Key × Ratio → Lie
kept_product n t u = cond (is_kept n t.0 u.0) (term_product t u ∷ []) []

-- what stands for f is followed by what stands for g
abbrev pub Appends : Lie → Lie → Lie → Type 0
Appends old g new = (f : Lie) → AreValues f old → AreValues (f ++ g) new

-- h has the sum of the terms of each key of f
pub record IsSummed (f h : Lie) : Type 0 where
  pub rises : EveryPair (λ t u. IsTrue (key_before t.0 u.0)) h
  pub exponents : Every (λ t. t.0.exp ≢ origin) f → Every (λ t. t.0.exp ≢ origin) h
  pub same : (k : Key) → AreSame (ratio_at h k) (sum_from zero_ratio (values_at k f))
  pub fits : (k : Key) → SumsFit zero_ratio (values_at k f)

-- h is f with the term t, whose key isn't before one of f
pub record IsSumWith (t : Key × Ratio) (f h : Lie) : Type 0 where
  pub rises : EveryPair (λ t u. IsTrue (key_before t.0 u.0)) h
  pub exponents : t.0.exp ≢ origin → Every (λ t. t.0.exp ≢ origin) f → Every (λ t. t.0.exp ≢ origin) h
  pub own : AreSame (ratio_at h t.0) (plus (ratio_at f t.0) t.1)
  pub other : (k : Key) → key_eq t.0 k ≡ false → ratio_at h k ≡ ratio_at f k

-- the fault is one of range only where the numbers don't fit
abbrev pub IsFaultOf : Type 0 → LieFault → Type 0
IsFaultOf Fits e = e ≡ Range → Fits → ⊥
