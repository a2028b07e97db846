-- The walls of the worked examples, and tests of consistency that compute.
--     two_lines                  the axes through (0, 0), with 1 + t1·x and 1 + t2·y
--     two_lines_and_ray          and the ray along (1, 1) with 1 + t1·t2·x·y
--     is_consistent ws p n       whether both images at p are as they were, modulo degree n + 1
use Rattle.std.proofs.Common.{ℕ, List, [], ◌∷◌, ◌++◌, ◌||◌, Bool}
use Rattle.std.specs.Prelude.{ℤ, pos, nat_lt}
use Rattle.std.specs.List.{list_all}
use Rattle.scattering.specs.Series.{Exp, Key, Term, Sum, coef, degree, int_eq, no_powers, unit, z, monomial}
use Rattle.scattering.specs.Plane.{Point}
use Rattle.scattering.specs.Wall.{WallKind, Line, Outgoing, Wall}
use Rattle.scattering.specs.LocalProduct.{image, axis_x, axis_y}

abbrev pub exp : ℤ → ℤ → Exp
exp x y = record { a = x; b = y }

-- t1^p·t2^q·z^(x, y)
abbrev pub key : ℕ → ℕ → ℤ → ℤ → Key
key p q x y = record { powers = record no_powers { t1 = p; t2 = q }; exp = exp x y }

-- t1^p·t2^q·t3^r·z^(x, y)
abbrev pub key3 : ℕ → ℕ → ℕ → ℤ → ℤ → Key
key3 p q r x y = record { powers = record no_powers { t1 = p; t2 = q; t3 = r }; exp = exp x y }

abbrev pub at : ℤ → ℤ → ℤ → Point
at a b c = record { x = a; y = b; w = c }

abbrev pub center : Point
center = at (pos 0) (pos 0) (pos 1)

-- with 1 and the given terms
abbrev pub wall : WallKind → Point → ℤ → ℤ → List Term → Wall
wall kind p a b f = record { kind = kind; at = p; dir = exp a b; function = (unit, pos 1) ∷ f }

abbrev pub line_x : Wall
line_x = wall Line center (pos 1) (pos 0) ((key 1 0 (pos 1) (pos 0), pos 1) ∷ [])

abbrev pub line_y : Wall
line_y = wall Line center (pos 0) (pos 1) ((key 0 1 (pos 0) (pos 1), pos 1) ∷ [])

abbrev pub two_lines : List Wall
two_lines = line_x ∷ line_y ∷ []

abbrev pub two_lines_and_ray : List Wall
two_lines_and_ray = line_x ∷ line_y ∷ wall Outgoing center (pos 1) (pos 1) ((key 1 1 (pos 1) (pos 1), pos 1) ∷ []) ∷ []

-- the coefficients up to degree n agree at every key that stands in one of them
abbrev pub same_to : ℕ → Sum → Sum → Bool
same_to n f g = list_all (λ t. nat_lt n (degree t.0) || int_eq (coef f t.0) (coef g t.0)) (f ++ g)

abbrev pub is_consistent : List Wall → Point → ℕ → Bool
is_consistent ws p n = list_all (λ m. same_to n (image ws p n m) (monomial (z m))) (axis_x ∷ axis_y ∷ [])
