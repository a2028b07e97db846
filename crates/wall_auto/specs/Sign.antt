-- The sign of a side: of the exponents that a wall's function gets.
use Rattle.std.specs.Prelude.{ℤ, pos, negsuc}
use Rattle.wall_auto.specs.declared.side.Side.{Side}
use Rattle.wall_auto.specs.declared.side.Side.TheVariants.{Plus, Minus}

abbrev pub sign : Side → ℤ
sign Plus = pos 1
sign Minus = negsuc 0
