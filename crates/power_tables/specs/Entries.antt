-- The values that are kept, as contracts see them.
use Rattle.scattering.specs.Collections.{Every}
use Rattle.std.specs.Prelude.{◌≡◌, ℕ, ◌<◌, List, [], map, ℤ, length, slice_index_or, Vec}
use Rattle.std.specs.Global.{Global}
use Rattle.trunc_series.specs.declared.arithmetic.Arithmetic.{Arithmetic}
use Rattle.power_tables.specs.declared.table.Part.{Part}
use Rattle.power_tables.specs.declared.values.Entry.{Entry}
use Rattle.power_tables.specs.Values.{SeenValues}
use Rattle.power_tables.specs.Rows.{AreCombined}
use Rattle.power_tables.specs.Kept.{numbers_of, seen_part}

abbrev pub seen_values : Entry → SeenValues
seen_values e = record { exponent = e.exponent; filled = e.filled; parts = map numbers_of e.parts.items }

-- as many of the values as are filled are those of the first parts
abbrev pub AreCombinedParts : Arithmetic → ℤ → List Part → ℕ → List (Vec ℤ Global) → Type 0
AreCombinedParts rule n parts filled values = (j : ℕ) → j < filled → AreCombined rule n (slice_index_or (map seen_part parts) j (record { keys = []; columns = [] })) (slice_index_or (map numbers_of values) j [])

-- every set is that of its exponent, as far as it is filled
abbrev pub AreEntries : Arithmetic → List Part → List Entry → Type 0
AreEntries rule parts entries = Every (λ e. AreCombinedParts rule e.exponent parts e.filled e.parts.items) entries

-- the place is that of the exponent n
abbrev pub IsEntryPlace : List Entry → ℕ → ℤ → Type 0
IsEntryPlace entries place n = (place < length entries) × ((d : Entry) → (slice_index_or entries place d).exponent ≡ n)
