-- Values of powers that are known of one table, each set with its exponent.
--     values_in vs t place i       what is kept at a place of the part of degree i
--     AreOf t vs                   every set is that of its exponent, as far as it is filled
--     AreReached vs t n top place  at this place are the values of the power with the exponent n, of degrees to top
use Rattle.std.specs.Prelude.{ℕ, ◌+◌, ◌-◌, ◌<◌, ◌≤◌, List, [], ℤ, pos, slice_index_or}
use Rattle.scattering.specs.Collections.{Every}
use Rattle.power_tables.specs.Tables.{SeenTable, ArePowerValues}

-- the values of one exponent, of as many degrees from the least on as are filled
pub record SeenValues : Type 0 where
  pub exponent : ℤ
  pub filled : ℕ
  pub parts : List (List ℤ)

abbrev pub values_in : List SeenValues → SeenTable → ℕ → ℕ → List ℤ
values_in vs t place i = slice_index_or (slice_index_or vs place (record { exponent = pos 0; filled = 0; parts = [] })).parts (i - t.least) []

abbrev pub AreFilled : SeenTable → SeenValues → Type 0
AreFilled t v = (j : ℕ) → j < v.filled → ArePowerValues t v.exponent (t.least + j) (slice_index_or v.parts j [])

abbrev pub AreOf : SeenTable → List SeenValues → Type 0
AreOf t vs = Every (AreFilled t) vs

abbrev pub AreReached : List SeenValues → SeenTable → ℤ → ℕ → ℕ → Type 0
AreReached vs t n top place = (i : ℕ) → t.least ≤ i → i ≤ top → ArePowerValues t n i (values_in vs t place i)
