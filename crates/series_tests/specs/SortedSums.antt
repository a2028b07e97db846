-- A test of sorted sums that computes.
use Rattle.std.specs.Prelude.{ℕ, ◌^◌, nat_abs, nat_lt, nat_le, Bool, not, ◌&&◌, pos}
use Rattle.std.specs.List.{list_all}
use Rattle.scattering.specs.Series.{Term, Sum, int_eq, degree}
use Rattle.sample_walls.specs.LowFunctions.{are_rising}

abbrev pub is_sorted_term : ℕ → Term → Bool
is_sorted_term n t = not (int_eq t.1 (pos 0)) && (nat_lt (nat_abs t.1) (2 ^ 127) && nat_le (degree t.0) n)

-- f is a series of order n with coefficients of 128 bits
abbrev pub is_sorted_sum : ℕ → Sum → Bool
is_sorted_sum n f = are_rising f && list_all (is_sorted_term n) f
