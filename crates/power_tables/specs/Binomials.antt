-- What holds of the rows that are kept.
use Rattle.std.specs.Prelude.{ℕ, ◌<◌, ◌≤◌, ◌^◌, List, ℤ, length, Vec}
use Rattle.std.specs.Global.{Global}
use Rattle.power_tables.specs.declared.rows.Family.{Family}
use Rattle.power_tables.specs.declared.rows.Family.TheVariants.{Above, Below, Multisets}
use Rattle.power_tables.specs.declared.rows.Binomials.{Binomials}
use Rattle.power_tables.specs.Rows.{AreBinomialRows, IsFullRow}

pub record AreBinomials (b : Binomials) : Type 0 where
  pub above : AreBinomialRows Above 0 b.above.items
  pub below : AreBinomialRows Below 0 b.below.items
  pub multisets : AreBinomialRows Multisets 0 b.multisets.items

abbrev pub rows_in : Family → Binomials → List (Vec ℤ Global)
rows_in Above b = b.above.items
rows_in Below b = b.below.items
rows_in Multisets b = b.multisets.items

-- the row of m is kept, or is the last one above those that are
pub record HasRow (family : Family) (m : ℕ) (b : Binomials) : Type 0 where
  pub near : m ≤ 2 ^ 17 → m < length (rows_in family b)
  pub far : 2 ^ 17 < m → IsFullRow family m b.far.items
