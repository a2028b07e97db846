-- What parts gain where a wall is crossed, part by part and term by term.
--     factor_at rule f d s i x    the part of degree i of the power by which a crossing multiplies the key x
--     Keeps rule p x              the terms p are kept as the sum x is
--     FitsBelow t x ps            the term x may be crossed and added to the parts ps
--     row_numbers t vs place      the numbers of a row, by degree
--     GetsRows, GainsTerm ..      what a row, a term, the terms of a degree, and all terms add
-- In a list of parts above a degree, the first is that of the next degree.
use Rattle.std.specs.Prelude.{◌≡◌, ℕ, suc, Option, Some, None, ◌+◌, ◌<◌, ◌≤◌, List, [], ◌∷◌, ◌++◌, map, length, nat_abs, ℤ, ◌*ℤ◌}
use Rattle.scattering.specs.Collections.{Every}
use Rattle.limits.specs.Limits.{highest_order}
use Rattle.scattering.specs.Series.{Exp, Key, Term, Sum, coef, degree, det, term_mul}
use Rattle.scattering.specs.ThetaProduct.{of_degree}
use Rattle.trunc_series.specs.declared.arithmetic.Arithmetic.{Arithmetic}
use Rattle.trunc_series.specs.declared.key.Key.{Key as CodeKey}
use Rattle.trunc_series.specs.Arithmetic.{kept, IsKeepable}
use Rattle.trunc_series.specs.Shown.{key_of, term_of, HasNearTerms}
use Rattle.trunc_series.specs.Sums.{AreKeptValues, AddsRow}
use Rattle.degree_theory.specs.Parts.{substituted, convolution}
use Rattle.power_tables.specs.Parts.{IsPartOf, multiplier}
use Rattle.power_tables.specs.Tables.{SeenTable, IsTableOf, TableGrowsBy, keys_at, numbers_at, column_sum}
use Rattle.power_tables.specs.Values.{SeenValues, values_in}
use Rattle.wall_auto.specs.ByDegree.{part, AreKept, IsTable, KeyGrowsBy}

abbrev pub factor_at : Arithmetic → Sum → Exp → ℤ → ℕ → Key → Sum
factor_at rule f d s i x = of_degree i (multiplier rule i f (s *ℤ det d x.exp))

pub record Keeps (rule : Arithmetic) (p x : Sum) : Type 0 where
  pub values : AreKeptValues rule p
  pub keepable : Every (λ t. IsKeepable rule t.1) x
  pub same : (k : Key) → kept rule (coef p k) ≡ kept rule (coef x k)

-- a number for each key of degree i
pub record AreNumbersAt (t : SeenTable) (i : ℕ) (numbers : List ℤ) : Type 0 where
  pub lengths : length numbers ≡ length (keys_at t i)
  pub values : AreKeptValues t.rule (column_sum (keys_at t i) numbers)

-- a term whose products with those of the table have degrees within the limit
pub record FitsBelow (t : SeenTable) (x : CodeKey × ℤ) (above : List Sum) : Type 0 where
  pub table : IsTable t
  pub order : length above ≤ t.order
  pub near : HasNearTerms (term_of x ∷ [])
  pub degree : degree (key_of x.0) + length above ≤ highest_order
  pub keepable : IsKeepable t.rule x.1
  pub kept : AreKept t.rule above

-- the numbers of a row: those of u, or those of the power whose values are kept at a place
abbrev pub row_numbers : SeenTable → List SeenValues → Option ℕ → ℕ → List ℤ
row_numbers t vs None = numbers_at t
row_numbers t vs (Some place) = values_in vs t place

-- numbers for the keys of each degree to n
abbrev pub AreNumbersTo : SeenTable → ℕ → (ℕ → List ℤ) → Type 0
AreNumbersTo t n numbers = (i : ℕ) → t.least ≤ i → i ≤ n → AreNumbersAt t i (numbers i)

-- each part whose degree the table has gets its keys of that degree, with the values of that degree, times x
abbrev pub GetsRows : SeenTable → (ℕ → List ℤ) → CodeKey × ℤ → List Sum → List Sum → Type 0
GetsRows t values x old new = (j : ℕ) → j < length old → t.least ≤ suc j → AddsRow t.rule (part old j) (part new j) x (keys_at t (suc j)) (values (suc j))

-- the others stay
abbrev pub LowPartsStay : SeenTable → List Sum → List Sum → Type 0
LowPartsStay t old new = (j : ℕ) → suc j < t.least → part new j ≡ part old j

-- the term x times the parts of the power with the exponent n
abbrev pub GainsTerm : SeenTable → ℤ → Term → List Sum → List Sum → Type 0
GainsTerm t n x old new = (f : Sum) → IsTableOf t.rule t.order f t → (j : ℕ) → j < length old → t.least ≤ suc j
    → Keeps t.rule (part new j) (map (term_mul x) (of_degree (suc j) (multiplier t.rule (suc j) f n)) ++ part old j)

-- all terms xs times those of their powers
abbrev pub GainsTerms : SeenTable → Exp → ℤ → Sum → List Sum → List Sum → Type 0
GainsTerms t d s xs old new = (f : Sum) → IsTableOf t.rule t.order f t → (j : ℕ) → j < length old → t.least ≤ suc j
    → Keeps t.rule (part new j) (substituted (factor_at t.rule f d s (suc j)) xs ++ part old j)

-- exponents of the parts above the degree e
abbrev pub PartsGrowAbove : ℕ → ℕ → ℕ → List Sum → Type 0
PartsGrowAbove c s e parts = (j : ℕ) → j < length parts → Every (λ t. KeyGrowsBy c s (e + suc j) t.0) (part parts j)

-- where the terms xs of degree e are within a bound, the parts above e stay within it
abbrev pub KeepsGrowth : SeenTable → Sum → List Sum → List Sum → Type 0
KeepsGrowth t xs old new = (c s e : ℕ) → TableGrowsBy s t → Every (λ u. KeyGrowsBy c s e u.0) xs → PartsGrowAbove c s e old → PartsGrowAbove c s e new

-- each part gets all that lower parts add to it
abbrev pub GainsParts : SeenTable → Exp → ℤ → List Sum → List Sum → Type 0
GainsParts t d s old new = (f : Sum) → IsTableOf t.rule t.order f t → (e : ℕ) → e < length old
    → Keeps t.rule (part new e) (convolution (factor_at t.rule f d s) (part old) t.least e ++ part old e)

-- ---- terms put into the parts of their degrees

-- each part is that of the sum of the terms
abbrev pub TakesParts : Arithmetic → Sum → List Sum → Type 0
TakesParts rule ts parts = (e : ℕ) → IsPartOf rule e (part parts e) ts

-- ---- masses

-- of all terms, whatever their degrees
abbrev pub size : Sum → ℕ
size [] = 0
size (t ∷ f) = nat_abs t.1 + size f

abbrev pub sizes : List Sum → ℕ
sizes [] = 0
sizes (p ∷ parts) = size p + sizes parts
