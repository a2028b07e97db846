-- A series of the tests: 1 + c·t1·x.
use Rattle.std.specs.Prelude.{ℤ, pos, [], ◌∷◌}
use Rattle.scattering.specs.Series.{Key, Sum, no_powers, unit}

abbrev pub t1x : Key
t1x = record { powers = record no_powers { t1 = 1 }; exp = record { a = pos 1; b = pos 0 } }

abbrev pub line_terms : ℤ → Sum
line_terms c = (unit, pos 1) ∷ (t1x, c) ∷ []
