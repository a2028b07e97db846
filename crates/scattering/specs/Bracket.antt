-- The Poisson bracket: {z^a, z^b} = det(a, b)·z^(a+b), over all pairs of terms; those of degree above n are dropped.
use Rattle.std.specs.Prelude.{ℕ, map, flat_map, ◌*ℤ◌}
use Rattle.scattering.specs.Series.{Term, Sum, key_mul, det, cut}

abbrev pub term_bracket : Term → Term → Term
term_bracket t u = (key_mul t.0 u.0, det t.0.exp u.0.exp *ℤ (t.1 *ℤ u.1))

abbrev pub bracket : ℕ → Sum → Sum → Sum
bracket n f g = flat_map (λ t. cut n (map (term_bracket t) g)) f
