-- (1 + t1·x)^12.
use Rattle.std.specs.Prelude.{ℕ, pos, [], ◌∷◌}
use Rattle.scattering.specs.Series.{Key, Sum, no_powers}

-- t1^k·x^k
abbrev pub x_to : ℕ → Key
x_to k = record { powers = record no_powers { t1 = k }; exp = record { a = pos k; b = pos 0 } }

abbrev pub twelfth_power : Sum
twelfth_power =
    (x_to 0, pos 1)
    ∷ (x_to 1, pos 12)
    ∷ (x_to 2, pos 66)
    ∷ (x_to 3, pos 220)
    ∷ (x_to 4, pos 495)
    ∷ (x_to 5, pos 792)
    ∷ (x_to 6, pos 924)
    ∷ (x_to 7, pos 792)
    ∷ (x_to 8, pos 495)
    ∷ (x_to 9, pos 220)
    ∷ (x_to 10, pos 66)
    ∷ (x_to 11, pos 12)
    ∷ (x_to 12, pos 1)
    ∷ []
