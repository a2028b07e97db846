-- Rows of numbers by degree: what is added to one, how fast one grows, and masses of products of those of their factors.
use Rattle.std.specs.Prelude.{◌≡◌, ℕ, zero, suc, ◌+◌, ◌-◌, ◌*◌, ◌<◌, ◌≤◌, ◌^◌, List, [], slice_index, slice_index_or}
use Rattle.scattering.specs.Series.{Exp, Sum, degree, absolute, rest}
use Rattle.scattering.specs.Collections.{Every}
use Rattle.weight_bounds.specs.Tables.{SeenMassTable, IsMassTable}
use Rattle.weight_bounds.specs.Masses.{mass_at, majorant_mass, IsBound, BoundsByDegree}

-- the new numbers bound the old ones and c times those of the row, `by` degrees up
pub record AddsTimes (by from end : ℕ) (old new : List ℕ) (c : ℕ) (row : List ℕ) : Type 0 where
  pub added : (i : ℕ) → from ≤ i → i < end → (v m w : ℕ) → IsBound (slice_index old (by + i)) v → IsBound c m → IsBound (slice_index row i) w → IsBound (slice_index new (by + i)) (v + m * w)
  pub below : (i : ℕ) → i < by + from → slice_index new i ≡ slice_index old i

-- exponents are of 32 bits, and those of products are added up
abbrev pub IsSlow : List ℕ → Type 0
IsSlow reach = (i : ℕ) → slice_index reach i ≤ 2 ^ 31 * i

-- f 0 + .. + f (n - 1)
abbrev pub sum_below : ℕ → (ℕ → ℕ) → ℕ
sum_below zero f = 0
sum_below (suc n) f = sum_below n f + f n

-- x bounds the sum of the numbers that the row bounds
abbrev pub BoundsTotal : ℕ → List ℕ → ℕ → Type 0
BoundsTotal k xs x = (v : ℕ → ℕ) → BoundsByDegree k xs v → IsBound x (sum_below (k + 1) v)

-- v i·w 0 + v (i - 1)·w 1 + .. + v 0·w i
abbrev pub convolved : (ℕ → ℕ) → (ℕ → ℕ) → ℕ → ℕ
convolved v w i = sum_below (suc i) (λ j. v (i - j) * w j)

-- the numbers of the r-th power: 1, then products
abbrev pub powered : (ℕ → ℕ) → ℕ → ℕ → ℕ
powered v zero zero = 1
powered v zero (suc i) = 0
powered v (suc r) i = convolved v (powered v r) i

-- the rows of the powers from the first on bound those numbers to degree k, where there are none below `least`
abbrev pub ArePowerMasses : ℕ → ℕ → List ℕ → List (List ℕ) → Type 0
ArePowerMasses k least masses rows =
    (v : ℕ → ℕ) (r : ℕ) → BoundsByDegree k masses v → ((i : ℕ) → i < least → v i ≡ 0)
    → BoundsByDegree k (slice_index_or rows r []) (powered v (suc r))

-- the masses by degree after a crossing whose function is f, of those before it: the terms of degree d get the power of
-- 1/(2 - |f|) whose exponent is size·(1 + reach of d)
abbrev pub gained : ℕ → List ℕ → Sum → (ℕ → ℕ) → ℕ → ℕ → ℕ
gained size reach f v i l = v (i - l) * majorant_mass f (size * (1 + slice_index reach (i - l))) l

abbrev pub crossed_masses : ℕ → List ℕ → Sum → (ℕ → ℕ) → ℕ → ℕ
crossed_masses size reach f v i = sum_below (suc i) (gained size reach f v i)

-- the new masses bound what the crossing of the table's wall makes of the old ones
abbrev pub CrossesMasses : ℕ → SeenMassTable → List ℕ → List ℕ → List ℕ → Type 0
CrossesMasses k t reach old new = (d : Exp) (f : Sum) (v : ℕ → ℕ) → IsMassTable k d f t → BoundsByDegree k old v → BoundsByDegree k new (crossed_masses t.size reach f v)

-- the row bounds the masses of the degrees from 1 to `top` of the n-th power of 1/(2 - |f|)
abbrev pub AreMultipliers : SeenMassTable → ℕ → ℕ → List ℕ → Type 0
AreMultipliers t n top row = (k : ℕ) (d : Exp) (f : Sum) (i : ℕ) → IsMassTable k d f t → 1 ≤ i → i ≤ top → IsBound (slice_index row i) (majorant_mass f n i)

-- bounds of the absolute values of all coefficients by degree
abbrev pub AreMassesOf : ℕ → List ℕ → Sum → Type 0
AreMassesOf k xs f = BoundsByDegree k xs (λ i. mass_at i (absolute (rest f)))

-- the terms other than 1 have degree at least 1
abbrev pub HasOthers : Sum → Type 0
HasOthers f = Every (λ t. 1 ≤ degree t.0) (rest f)

-- the rows bound the numbers of the powers from the first on, which have nothing below `least` a power
pub record ArePowersOf (k least : ℕ) (rows : List (List ℕ)) (m : ℕ → ℕ → ℕ) : Type 0 where
  pub masses : (r : ℕ) → BoundsByDegree k (slice_index_or rows r []) (m (suc r))
  pub low : (r i : ℕ) → i < r * least → m r i ≡ 0
