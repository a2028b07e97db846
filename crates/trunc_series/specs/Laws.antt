-- What is proved here of sums, and of series of one order n: the laws of a commutative ring, and how bounds carry over.
-- Sums are compared by their coefficients; products and powers are modulo degree n + 1. An operation's result is a series of
-- the sum that its contract names, so by `SeriesIsDetermined` each law of sums is one of results, as equal series.
use Rattle.std.specs.Prelude.{◌≡◌, ℕ, ◌+◌, ◌*◌, ◌≤◌, ◌↔◌, suc, [], ◌++◌, ℤ, pos, negsuc, ◌+ℤ◌}
use Rattle.limits.specs.Limits.{largest_weight}
use Rattle.scattering.specs.Collections.{Every}
use Rattle.scattering.specs.Series.{Sum, IsSeries, Same, degree, coef, unit, rest, one, minus, absolute, inverse, geometric, mul, pow, power, mass_to}
use Rattle.trunc_series.specs.Shown.{Seen, IsSeriesOf, HasNearTerms, majorant_power}
use Rattle.trunc_series.specs.Capped.{IsMajorantOf}

-- ---- series

-- a series is told by its order and its coefficients
abbrev pub SeriesIsDetermined : Type 0
SeriesIsDetermined = (s s' : Seen) (n : ℕ) (f f' : Sum) → IsSeriesOf s n f → IsSeriesOf s' n f' → Same f f' → s ≡ s'

-- ---- addition

abbrev pub AdditionCommutes : Type 0
AdditionCommutes = (f g : Sum) → Same (f ++ g) (g ++ f)

abbrev pub AdditionIsAssociative : Type 0
AdditionIsAssociative = (f g h : Sum) → Same ((f ++ g) ++ h) (f ++ (g ++ h))

abbrev pub ZeroIsNeutral : Type 0
ZeroIsNeutral = (f : Sum) → Same ([] ++ f) f

abbrev pub NegativeCancels : Type 0
NegativeCancels = (f : Sum) → Same (f ++ minus f) []

-- ---- multiplication

abbrev pub MultiplicationCommutes : Type 0
MultiplicationCommutes = (n : ℕ) (f g : Sum) → Same (mul n f g) (mul n g f)

abbrev pub MultiplicationIsAssociative : Type 0
MultiplicationIsAssociative = (n : ℕ) (f g h : Sum) → Same (mul n (mul n f g) h) (mul n f (mul n g h))

-- of a sum without terms of degree above n, as each series of order n is
abbrev pub OneIsNeutral : Type 0
OneIsNeutral = (n : ℕ) (f : Sum) → Every (λ t. degree t.0 ≤ n) f → Same (mul n one f) f

abbrev pub MultiplicationDistributes : Type 0
MultiplicationDistributes = (n : ℕ) (f g h : Sum) → Same (mul n f (g ++ h)) (mul n f g ++ mul n f h)

-- ---- powers

abbrev pub ExponentsAdd : Type 0
ExponentsAdd = (n : ℕ) (f : Sum) (i j : ℕ) → Same (mul n (pow n f i) (pow n f j)) (pow n f (i + j))

-- 1/f, of a series that is 1 and terms of degree at least 1
abbrev pub InverseCancels : Type 0
InverseCancels = (n : ℕ) (f : Sum) → IsSeries n f → coef f unit ≡ pos 1 → Every (λ t. 1 ≤ degree t.0) (rest f) → Same (mul n f (inverse n f)) one

-- of such a series, exponents of either sign
abbrev pub SignedExponentsAdd : Type 0
SignedExponentsAdd = (n : ℕ) (f : Sum) (i j : ℤ) → IsSeries n f → coef f unit ≡ pos 1 → Every (λ t. 1 ≤ degree t.0) (rest f)
    → Same (mul n (power n f i) (power n f j)) (power n f (i +ℤ j))

-- ---- sums with the same coefficients can stand for one another

abbrev pub AdditionKeepsSame : Type 0
AdditionKeepsSame = (f f' g g' : Sum) → Same f f' → Same g g' → Same (f ++ g) (f' ++ g')

abbrev pub MultiplicationKeepsSame : Type 0
MultiplicationKeepsSame = (n : ℕ) (f f' g g' : Sum) → Same f f' → Same g g' → Same (mul n f g) (mul n f' g')

abbrev pub PowersKeepSame : Type 0
PowersKeepSame = (n : ℕ) (f f' : Sum) (i : ℕ) → Same f f' → Same (pow n f i) (pow n f' i)

-- ---- what is known of a series by the sum that it stands for, as the conditions of operations ask

abbrev pub SeriesHasLeastMass : Type 0
SeriesHasLeastMass = (s : Seen) (n : ℕ) (f : Sum) → IsSeriesOf s n f → mass_to n s.terms ≤ mass_to n f

abbrev pub SeriesStaysNear : Type 0
SeriesStaysNear = (s : Seen) (n : ℕ) (f : Sum) → IsSeriesOf s n f → HasNearTerms f → HasNearTerms s.terms

abbrev pub SumsStayNear : Type 0
SumsStayNear = (f g : Sum) → HasNearTerms f → HasNearTerms g → HasNearTerms (f ++ g)

abbrev pub MassesAdd : Type 0
MassesAdd = (n : ℕ) (f g : Sum) → mass_to n (f ++ g) ≡ mass_to n f + mass_to n g

-- the mass of a product's majorant is at most the product of the masses
abbrev pub MassesMultiply : Type 0
MassesMultiply = (n : ℕ) (f g : Sum) → mass_to n (mul n (absolute f) (absolute g)) ≤ mass_to n f * mass_to n g

-- where the product of the majorants has a mass of at most 2^126, so has that of the absolute values: `mul`'s condition
abbrev pub MajorantTestsProduct : Type 0
MajorantTestsProduct = (n : ℕ) (f g : Sum) (a b p : Seen) → IsMajorantOf a n (absolute f) → IsMajorantOf b n (absolute g) → IsMajorantOf p n (mul n a.terms b.terms)
    → mass_to n p.terms ≤ largest_weight → mass_to n (mul n (absolute f) (absolute g)) ≤ largest_weight

-- where the power of a majorant has a mass of at most 2^126, and only there, so has that of |f|: `power`'s condition for an
-- exponent of at least 0
abbrev pub MajorantTestsPower : Type 0
MajorantTestsPower = (n i : ℕ) (f : Sum) (a p : Seen) → IsMajorantOf a n (absolute f) → IsMajorantOf p n (pow n a.terms i)
    → (mass_to n p.terms ≤ largest_weight) ↔ (mass_to n (majorant_power n f (pos i)) ≤ largest_weight)

-- the same of 1/(2 - |f|): `power`'s condition for an exponent below 0
abbrev pub GeometricTestsNegativePower : Type 0
GeometricTestsNegativePower = (n i : ℕ) (f : Sum) (g p : Seen) → IsMajorantOf g n (geometric n f) → IsMajorantOf p n (pow n g.terms (suc i))
    → (mass_to n p.terms ≤ largest_weight) ↔ (mass_to n (majorant_power n f (negsuc i)) ≤ largest_weight)

-- 1/(2 - |f|) can be made of the majorant of f, too
abbrev pub MajorantHasGeometric : Type 0
MajorantHasGeometric = (n : ℕ) (f : Sum) (a g : Seen) → IsMajorantOf a n (absolute f) → IsMajorantOf g n (geometric n a.terms) → IsMajorantOf g n (geometric n f)
