-- Rows of the numbers by which powers of u are multiplied, and values that are made with them.
--     factor_of, rule_of           the numbers of a family, and how they are kept
--     IsBinomialRow family m row           the row has the first of the m-th numbers of the family, as they are kept
--     HasFactors rule n row        it has those of the power with the exponent n
--     AreCombined rule n part vs   vs are the coefficients at the keys of the part of that power
use Rattle.std.specs.Prelude.{◌≡◌, ℕ, suc, ◌<◌, List, [], ◌∷◌, ◌++◌, ℤ, pos, neg_ℤ, ◌+ℤ◌, ◌*ℤ◌, length, slice_index_or, slice_set, Vec}
use Rattle.std.specs.Global.{Global}
use Rattle.scattering.specs.Series.{Key, coef}
use Rattle.trunc_series.specs.declared.arithmetic.Arithmetic.{Arithmetic}
use Rattle.trunc_series.specs.declared.arithmetic.Arithmetic.TheVariants.{Wrapping, Saturating}
use Rattle.trunc_series.specs.declared.key.Key.{Key as CodeKey}
use Rattle.trunc_series.specs.Arithmetic.{kept}
use Rattle.trunc_series.specs.Sums.{AreKeptValues}
use Rattle.degree_theory.specs.Parts.{choose, multichoose, scaled}
use Rattle.power_tables.specs.declared.rows.Family.{Family}
use Rattle.power_tables.specs.declared.rows.Family.TheVariants.{Above, Below, Multisets}
use Rattle.power_tables.specs.Kept.{AreKeepable, numbers_of}
use Rattle.power_tables.specs.Tables.{SeenPart, factor, column_sum, column_combination}

abbrev pub rule_of : Family → Arithmetic
rule_of Above = Wrapping
rule_of Below = Wrapping
rule_of Multisets = Saturating

abbrev pub factor_of : Family → ℕ → ℕ → ℤ
factor_of Above m r = choose (pos m) r
factor_of Below m r = choose (neg_ℤ (pos m)) r
factor_of Multisets m r = pos (multichoose m r)

abbrev pub IsBinomialRow : Family → ℕ → List ℤ → Type 0
IsBinomialRow family m row = (r : ℕ) → r < length row → slice_index_or row r (pos 0) ≡ kept (rule_of family) (factor_of family m r)

pub record IsFullRow (family : Family) (m : ℕ) (row : List ℤ) : Type 0 where
  pub width : length row ≡ 25
  pub keepable : AreKeepable (rule_of family) row
  pub numbers : IsBinomialRow family m row

-- the rows of m, m + 1, ..
abbrev pub AreBinomialRows : Family → ℕ → List (Vec ℤ Global) → Type 0
AreBinomialRows family m [] = Unit {0}
AreBinomialRows family m (row ∷ rows) = IsFullRow family m (numbers_of row) × AreBinomialRows family (suc m) rows

-- the numbers of the exponent n
pub record HasFactors (rule : Arithmetic) (n : ℤ) (row : List ℤ) : Type 0 where
  pub keepable : AreKeepable rule row
  pub each : (r : ℕ) → r < length row → slice_index_or row r (pos 0) ≡ kept rule (factor rule n r)

pub record AreCombined (rule : Arithmetic) (n : ℤ) (part : SeenPart) (vs : List ℤ) : Type 0 where
  pub lengths : length vs ≡ length part.keys
  pub values : AreKeptValues rule (column_sum part.keys vs)
  pub same : (x : Key) → kept rule (coef (column_sum part.keys vs) x) ≡ kept rule (coef (column_combination rule n part.keys 1 part.columns) x)

-- c·x more at a place
abbrev pub AddsAt : Arithmetic → ℤ → ℤ → ℕ → List ℤ → List ℤ → Type 0
AddsAt rule c x i old new = new ≡ slice_set old i (kept rule (slice_index_or old i (pos 0) +ℤ kept rule (c *ℤ x)))

-- c times a column more, at the first of any keys
pub record AddsScaled (rule : Arithmetic) (c : ℤ) (column old new : List ℤ) : Type 0 where
  pub lengths : length new ≡ length old
  pub sums : (ks : List CodeKey) → length old ≡ length ks → AreKeptValues rule (column_sum ks old)
      → AreKeptValues rule (column_sum ks new) × ((x : Key) → kept rule (coef (column_sum ks new) x) ≡ kept rule (coef (scaled c (column_sum ks column) ++ column_sum ks old) x))
