-- Sums of the tests.
use Rattle.std.specs.Prelude.{ℕ, ℤ, pos, [], ◌∷◌}
use Rattle.scattering.specs.Series.{Exp, Key, Sum, no_powers}

-- (1, 0)
abbrev pub east : Exp
east = record { a = pos 1; b = pos 0 }

-- t1^p·z^(a, b)
abbrev pub worked_key : ℕ → ℤ → ℤ → Key
worked_key p x y = record { powers = record no_powers { t1 = p }; exp = record { a = x; b = y } }

-- z^(0, 1) + t1·z^(1, 1)
abbrev pub crossed_once : Sum
crossed_once = (worked_key 0 (pos 0) (pos 1), pos 1) ∷ (worked_key 1 (pos 1) (pos 1), pos 1) ∷ []
