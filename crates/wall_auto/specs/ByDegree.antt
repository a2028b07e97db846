-- Sums by degree: a list of parts, that of degree 0 first, each a list of terms in any order.
--     part parts e                  the part of degree e
--     StandsByDegree rule k ps g    ps are the parts of g of the degrees from 0 to k, as coefficients are kept
--     PartsGrowBy c s ps            degrees are those of the parts, and no exponent of degree e is above c + s·e
--     crossing_of rule k d f s g    the crossing, or its majorant where numbers saturate
use Rattle.std.specs.Prelude.{◌≡◌, ℕ, suc, ◌+◌, ◌*◌, ◌<◌, ◌≤◌, List, [], length, slice_index_or, nat_abs, ℤ, min, Vec}
use Rattle.std.specs.Global.{Global}
use Rattle.limits.specs.Limits.{largest_exponent, largest_weight}
use Rattle.scattering.specs.Collections.{Every}
use Rattle.scattering.specs.Series.{Exp, Key, Sum, IsWallFunction, cut, degree, mass_to, monomial, z}
use Rattle.scattering.specs.ThetaProduct.{of_degree}
use Rattle.scattering.specs.LocalProduct.{cross, cross_majorant}
use Rattle.trunc_series.specs.declared.arithmetic.Arithmetic.{Arithmetic}
use Rattle.trunc_series.specs.declared.arithmetic.Arithmetic.TheVariants.{Wrapping, Saturating}
use Rattle.trunc_series.specs.declared.key.Key.{Key as CodeKey}
use Rattle.trunc_series.specs.Shown.{sum_of}
use Rattle.trunc_series.specs.Reduced.{IsKeptAs}
use Rattle.trunc_series.specs.Sums.{AreKeptValues}
use Rattle.power_tables.specs.Parts.{IsPartOf}
use Rattle.power_tables.specs.Tables.{SeenTable, IsTableOf, TableGrowsBy}

abbrev pub part : List Sum → ℕ → Sum
part parts e = slice_index_or parts e []

pub record StandsByDegree (rule : Arithmetic) (k : ℕ) (parts : List Sum) (g : Sum) : Type 0 where
  pub lengths : length parts ≡ suc k
  pub each : (e : ℕ) → e ≤ k → IsPartOf rule e (part parts e) g

-- a key of degree e with exponents of at most c + s·e
abbrev pub KeyGrowsBy : ℕ → ℕ → ℕ → Key → Type 0
KeyGrowsBy c s e x = (degree x ≡ e) × (nat_abs x.exp.a ≤ c + s * e) × (nat_abs x.exp.b ≤ c + s * e)

abbrev pub PartsGrowBy : ℕ → ℕ → List Sum → Type 0
PartsGrowBy c s parts = (e : ℕ) → e < length parts → Every (λ t. KeyGrowsBy c s e t.0) (part parts e)

-- no exponent is above 2^16
abbrev pub AreNear : List Sum → Type 0
AreNear parts = PartsGrowBy largest_exponent 0 parts

-- each coefficient is one that may be kept
abbrev pub AreKept : Arithmetic → List Sum → Type 0
AreKept rule parts = Every (AreKeptValues rule) parts

abbrev pub crossing_of : Arithmetic → ℕ → Exp → Sum → ℤ → Sum → Sum
crossing_of Wrapping k d f s g = cross k d f s g
crossing_of Saturating k d f s g = cross_majorant k d f g

-- it is the table of a function
abbrev pub IsTable : SeenTable → Type 0
IsTable t = (f : Sum) × IsTableOf t.rule t.order f t

-- ---- what calls do

-- wherever the parts were those of a sum, they are those of its crossing
abbrev pub CrossesParts : SeenTable → Exp → ℤ → List Sum → List Sum → Type 0
CrossesParts t d s old new = (k m : ℕ) (f g : Sum) → IsWallFunction m d f → IsTableOf t.rule k f t → StandsByDegree t.rule k old g → StandsByDegree t.rule k new (crossing_of t.rule k d f s g)

-- where the exponents of the table grow by at most s a degree, so do those of the parts
abbrev pub CrossesWithin : SeenTable → List Sum → List Sum → Type 0
CrossesWithin t old new = (c s : ℕ) → TableGrowsBy s t → PartsGrowBy c s old → PartsGrowBy c s new

-- the parts are those of z^m
abbrev pub StartsAt : Arithmetic → Exp → List Sum → Type 0
StartsAt rule m parts = (k : ℕ) → length parts ≡ suc k → StandsByDegree rule k parts (monomial (z m))

abbrev pub StartsWithin : Exp → List Sum → Type 0
StartsWithin m parts = (c s : ℕ) → nat_abs m.a ≤ c → nat_abs m.b ≤ c → PartsGrowBy c s parts

-- the parts are those of the sum of the terms
abbrev pub TakesTerms : Arithmetic → Sum → List Sum → Type 0
TakesTerms rule ts parts = (k : ℕ) → length parts ≡ suc k → StandsByDegree rule k parts ts

abbrev pub TakesWithin : Sum → List Sum → Type 0
TakesWithin ts parts = (c s : ℕ) → Every (λ t. KeyGrowsBy c s (degree t.0) t.0) ts → PartsGrowBy c s parts

-- the sorted terms of the part of degree e
abbrev pub IsSortedPart : Arithmetic → ℕ → List Sum → Sum → Type 0
IsSortedPart rule e parts r = (k : ℕ) (g : Sum) → StandsByDegree rule k parts g → IsKeptAs rule e r (of_degree e g)

-- the sorted terms of the sum
abbrev pub IsSortedWhole : Arithmetic → List Sum → Sum → Type 0
IsSortedWhole rule parts r = (k : ℕ) (g : Sum) → StandsByDegree rule k parts g → IsKeptAs rule k r (cut k g)

-- the mass of the sum, or 2^126 + 1 where it is above that
abbrev pub IsMass : List Sum → ℕ → Type 0
IsMass parts m = (k : ℕ) (g : Sum) → StandsByDegree Saturating k parts g → m ≡ min (mass_to k g) (largest_weight + 1)

-- r has the sorted terms of the crossing of g
abbrev pub IsCrossedAs : Arithmetic → ℕ → Exp → Sum → ℤ → Sum → Vec (CodeKey × ℤ) Global → Type 0
IsCrossedAs rule k d f s g r = IsKeptAs rule k (sum_of r.items) (crossing_of rule k d f s g)
