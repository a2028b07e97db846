-- What a table keeps, as contracts see it, and what holds of every table.
use Rattle.std.specs.Prelude.{◌≡◌, ℕ, ◌+◌, ◌-◌, ◌*◌, ◌<◌, ◌≤◌, List, ◌∷◌, length, Vec, ℤ}
use Rattle.std.specs.Global.{Global}
use Rattle.limits.specs.Limits.{highest_order}
use Rattle.scattering.specs.Collections.{Every}
use Rattle.trunc_series.specs.declared.arithmetic.Arithmetic.{Arithmetic}
use Rattle.trunc_series.specs.Arithmetic.{IsKeepable}
use Rattle.power_tables.specs.declared.table.Part.{Part}
use Rattle.power_tables.specs.Tables.{SeenPart}

-- the numbers of a list of the program
abbrev pub numbers_of : Vec ℤ Global → List ℤ
numbers_of column = column.items

abbrev pub seen_part : Part → SeenPart
seen_part p = record { keys = p.keys.items; columns = p.first.items ∷ p.higher.items }

-- numbers that may be kept by a rule
abbrev pub AreKeepable : Arithmetic → List ℤ → Type 0
AreKeepable rule cs = Every (λ c. IsKeepable rule c) cs

-- no column is longer than the list of keys, and none is of a power above the order
pub record IsSoundPart (rule : Arithmetic) (p : Part) : Type 0 where
  pub first : AreKeepable rule p.first.items
  pub within : length p.first.items ≤ length p.keys.items
  pub higher : Every (AreKeepable rule) p.higher.items
  pub lengths : Every (λ c. length c ≤ length p.keys.items) p.higher.items
  pub count : length p.higher.items < highest_order

pub record IsSound (rule : Arithmetic) (order least : ℕ) (parts : List Part) : Type 0 where
  pub high : order ≤ highest_order
  pub positive : 1 ≤ least
  pub most : least ≤ highest_order + 1
  pub each : Every (IsSoundPart rule) parts
  pub count : length parts ≡ order + 1 - least
  pub linear : order < 2 * least → Every (λ p. length p.higher.items ≡ 0) parts
