-- Columns of numbers of 64 or 128 bits, which are seen alike.
use Rattle.std.specs.Prelude.{◌≡◌, List, ℤ, Option, IfSome, Vec}
use Rattle.std.specs.Global.{Global}
use Rattle.power_tables.specs.declared.column.Numbers.{Numbers}
use Rattle.power_tables.specs.declared.column.Numbers.TheVariants.{Short, Long}

abbrev pub all_numbers : Numbers → List ℤ
all_numbers (Short xs) = xs.items
all_numbers (Long xs) = xs.items

-- the same numbers, if they are told
abbrev pub IsShortOf : List ℤ → Option (Vec ℤ Global) → Type 0
IsShortOf xs o = IfSome o (λ ys. ys.items ≡ xs)
