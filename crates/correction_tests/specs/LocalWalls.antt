-- The walls of the worked examples.
--     middle, steep_point       (0, 0) and (0, -9/64)
--     diagram_with n ls rs      the diagram of order n with these lines and rays
--     plain_lines               the axes with 1 + t1·x and 1 + t2·y
--     heavy_lines, heavy_rays   the same with coefficients of 2^31 - 1, and the ray along (1, 1)
--     steep_lines               lines along (0, 1) and (64, 1) with terms at (0, 64) and (64, 1), through (0, 0) and (9, 0)
use Rattle.std.specs.Prelude.{ℕ, ℤ, pos, negsuc, List, [], ◌∷◌}
use Rattle.scattering.specs.Series.{Key, Term, no_powers, unit}
use Rattle.scattering.specs.Plane.{Point}
use Rattle.scattering.specs.Wall.{WallKind, Line, Outgoing, Wall}
use Rattle.plane_geom.specs.Places.{point}
use Rattle.scatter_diagram.specs.Listed.{SeenDiagram}

-- t1^p·t2^q·z^(x, y)
abbrev pub key : ℕ → ℕ → ℤ → ℤ → Key
key p q x y = record { powers = record no_powers { t1 = p; t2 = q }; exp = record { a = x; b = y } }

abbrev pub middle : Point
middle = point (pos 0) (pos 0) (pos 1)

abbrev pub steep_point : Point
steep_point = point (pos 0) (negsuc 8) (pos 64)

-- with 1 and one term
abbrev pub wall : WallKind → Point → ℤ → ℤ → Term → Wall
wall kind p a b t = record { kind = kind; at = p; dir = record { a = a; b = b }; function = (unit, pos 1) ∷ t ∷ [] }

abbrev pub plain_lines : List Wall
plain_lines = wall Line middle (pos 1) (pos 0) (key 1 0 (pos 1) (pos 0), pos 1) ∷ wall Line middle (pos 0) (pos 1) (key 0 1 (pos 0) (pos 1), pos 1) ∷ []

abbrev pub heavy_lines : List Wall
heavy_lines = wall Line middle (pos 1) (pos 0) (key 1 0 (pos 1) (pos 0), pos 2147483647) ∷ wall Line middle (pos 0) (pos 1) (key 0 1 (pos 0) (pos 1), pos 2147483647) ∷ []

abbrev pub heavy_rays : List Wall
heavy_rays = wall Outgoing middle (pos 1) (pos 1) (key 1 1 (pos 1) (pos 1), pos 4611686014132420609) ∷ []

abbrev pub steep_lines : List Wall
steep_lines = wall Line middle (pos 0) (pos 1) (key 1 0 (pos 0) (pos 64), pos 1) ∷ wall Line (point (pos 9) (pos 0) (pos 1)) (pos 64) (pos 1) (key 1 0 (pos 64) (pos 1), pos 2147483647) ∷ []

abbrev pub diagram_with : ℕ → List Wall → List Wall → SeenDiagram
diagram_with n ls rs = record { order = n; diagram = record { initial = ls; rays = rs } }
