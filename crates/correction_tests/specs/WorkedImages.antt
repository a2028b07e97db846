-- The worked images of the tests: x + t1·t2·x^2·y and y - t1·t2·x·y^2.
use Rattle.std.specs.Prelude.{ℤ, pos, negsuc, [], ◌∷◌}
use Rattle.scattering.specs.Series.{Key, Sum, no_powers}
use Rattle.scattering.specs.Correction.{Lie}

abbrev pub key_at : ℤ → ℤ → Key
key_at a b = record { powers = no_powers; exp = record { a = a; b = b } }

abbrev pub mixed_at : ℤ → ℤ → Key
mixed_at a b = record { powers = record no_powers { t1 = 1; t2 = 1 }; exp = record { a = a; b = b } }

abbrev pub worked_x : Sum
worked_x = (key_at (pos 1) (pos 0), pos 1) ∷ (mixed_at (pos 2) (pos 1), pos 1) ∷ []

abbrev pub worked_y : Sum
worked_y = (key_at (pos 0) (pos 1), pos 1) ∷ (mixed_at (pos 1) (pos 2), negsuc 0) ∷ []

abbrev pub worked_leading : Lie
worked_leading = (mixed_at (pos 1) (pos 1), record { num = negsuc 0; den = pos 1 }) ∷ []
