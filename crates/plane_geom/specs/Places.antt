-- What a point's and a direction's fields have to meet.
use Rattle.std.specs.Prelude.{ℤ, ◌≤◌, nat_abs}
use Rattle.limits.specs.Limits.{largest_direction}
use Rattle.scattering.specs.Series.{Exp}
use Rattle.scattering.specs.Plane.{Point}

abbrev pub point : ℤ → ℤ → ℤ → Point
point a b c = record { x = a; y = b; w = c }

abbrev pub pair : ℤ → ℤ → Exp
pair m n = record { a = m; b = n }

abbrev pub IsSmall : ℤ → ℤ → Type 0
IsSmall m n = (nat_abs m ≤ largest_direction) × (nat_abs n ≤ largest_direction)
