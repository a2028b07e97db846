-- A test of wall functions that computes, for worked examples.
use Rattle.std.specs.Prelude.{ℕ, ◌*◌, nat_abs, nat_lt, nat_le, Bool, true, not, ◌&&◌, ◌||◌, [], ◌∷◌, pos}
use Rattle.std.specs.List.{list_any, list_all}
use Rattle.limits.specs.Limits.{exponent_per_degree, largest_mass}
use Rattle.scattering.specs.Series.{Exp, Term, Sum, int_eq, exp_eq, key_eq, key_before, unit, degree, coef, scale, mass_to}

-- m is d, 2·d, 3·d, 4·d or 64·d
abbrev pub is_low_multiple : Exp → Exp → Bool
is_low_multiple d m = list_any (λ j. exp_eq m (scale (pos j) d)) (1 ∷ 2 ∷ 3 ∷ 4 ∷ 64 ∷ [])

abbrev pub is_low_term : ℕ → Exp → Term → Bool
is_low_term n d t =
    not (int_eq t.1 (pos 0)) && (nat_lt (nat_abs t.1) (largest_mass) && (nat_le (degree t.0) n && (nat_le (nat_abs t.0.exp.a) (exponent_per_degree * degree t.0) && (nat_le (nat_abs t.0.exp.b) (exponent_per_degree * degree t.0)
    && (key_eq t.0 unit || (nat_le 1 (degree t.0) && is_low_multiple d t.0.exp))))))

abbrev pub are_rising : Sum → Bool
are_rising [] = true
are_rising (t ∷ f) = list_all (λ u. key_before t.0 u.0) f && are_rising f

-- f is a wall function of order n and direction d whose exponents are among those multiples
abbrev pub is_low_function : ℕ → Exp → Sum → Bool
is_low_function n d f = are_rising f && (list_all (is_low_term n d) f && (int_eq (coef f unit) (pos 1) && nat_le (mass_to n f) (largest_mass)))
