-- Worked examples of completions, of active points and of incoming rays, computed.
use Rattle.std.proofs.Common.{◌≡◌, refl, List, [], ◌∷◌, true, false}
use Rattle.std.specs.Prelude.{pos, negsuc}
use Rattle.scattering.specs.Wall.{Line, Outgoing, Incoming, Wall}
use Rattle.scattering.specs.ActivePoint.{is_active, is_special}
use Rattle.scattering.proofs.ExampleWalls.{key, key3, at, center, wall, two_lines, two_lines_and_ray, is_consistent}

-- ---- two lines that cross once: one ray

two_lines_at_order_one : is_consistent two_lines center 1 ≡ true
two_lines_at_order_one = refl

two_lines_lack_a_ray : is_consistent two_lines center 2 ≡ false
two_lines_lack_a_ray = refl

two_lines_with_ray : is_consistent two_lines_and_ray center 2 ≡ true
two_lines_with_ray = refl

two_lines_with_ray_at_order_three : is_consistent two_lines_and_ray center 3 ≡ true
two_lines_with_ray_at_order_three = refl

crossing_is_special : is_special two_lines_and_ray center ≡ true
crossing_is_special = refl

point_of_one_line_is_plain : is_special two_lines_and_ray (at (pos 2) (pos 0) (pos 1)) ≡ false
point_of_one_line_is_plain = refl

-- ---- lines along (1, 0) and (1, 2): the ray's coefficient has the gcd of its exponent as a factor

abbrev determinant_two : List Wall
determinant_two = wall Line center (pos 1) (pos 0) ((key 1 0 (pos 1) (pos 0), pos 1) ∷ []) ∷ wall Line center (pos 1) (pos 2) ((key 0 1 (pos 1) (pos 2), pos 1) ∷ []) ∷ wall Outgoing center (pos 1) (pos 1) ((key 1 1 (pos 2) (pos 2), pos 4) ∷ []) ∷ []

lines_of_determinant_two : is_consistent determinant_two center 2 ≡ true
lines_of_determinant_two = refl

-- ---- three lines: a ray of one crossing meets the third line, and starts a ray there at order 3

abbrev three_lines : List Wall
three_lines = wall Line center (pos 1) (pos 0) ((key3 1 0 0 (pos 1) (pos 0), pos 1) ∷ [])
    ∷ wall Line center (pos 0) (pos 1) ((key3 0 1 0 (pos 0) (pos 1), pos 1) ∷ [])
    ∷ wall Line (at (pos 0) (pos 1) (pos 1)) (pos 1) (pos 0) ((key3 0 0 1 (pos 1) (pos 0), pos 1) ∷ [])
    ∷ wall Outgoing (at (negsuc 0) (pos 0) (pos 1)) (pos 2) (pos 1) ((key3 1 1 1 (pos 2) (pos 1), pos 1) ∷ [])
    ∷ wall Outgoing center (pos 1) (pos 1) ((key3 1 1 0 (pos 1) (pos 1), pos 1) ∷ [])
    ∷ wall Outgoing (at (pos 0) (pos 1) (pos 1)) (pos 1) (pos 1) ((key3 0 1 1 (pos 1) (pos 1), pos 1) ∷ []) ∷ []

three_lines_where_a_ray_crosses : is_consistent three_lines (at (negsuc 0) (pos 0) (pos 1)) 3 ≡ true
three_lines_where_a_ray_crosses = refl

three_lines_where_it_starts : is_consistent three_lines (at (pos 0) (pos 1) (pos 1)) 3 ≡ true
three_lines_where_it_starts = refl

active_at_order_three : is_active 3 three_lines (at (negsuc 0) (pos 0) (pos 1)) ≡ true
active_at_order_three = refl

not_active_at_order_two : is_active 2 three_lines (at (negsuc 0) (pos 0) (pos 1)) ≡ false
not_active_at_order_two = refl

-- ---- squares and cubes of the functions of the two lines

abbrev squares : List Wall
squares = wall Line center (pos 1) (pos 0) ((key 1 0 (pos 1) (pos 0), pos 2) ∷ (key 2 0 (pos 2) (pos 0), pos 1) ∷ [])
    ∷ wall Line center (pos 0) (pos 1) ((key 0 1 (pos 0) (pos 1), pos 2) ∷ (key 0 2 (pos 0) (pos 2), pos 1) ∷ [])
    ∷ wall Outgoing center (pos 1) (pos 1) ((key 1 1 (pos 1) (pos 1), pos 4) ∷ (key 2 2 (pos 2) (pos 2), pos 10) ∷ [])
    ∷ wall Outgoing center (pos 1) (pos 2) ((key 1 2 (pos 1) (pos 2), pos 2) ∷ [])
    ∷ wall Outgoing center (pos 2) (pos 1) ((key 2 1 (pos 2) (pos 1), pos 2) ∷ []) ∷ []

squares_at_order_four : is_consistent squares center 4 ≡ true
squares_at_order_four = refl

abbrev cubes : List Wall
cubes = wall Line center (pos 1) (pos 0) ((key 1 0 (pos 1) (pos 0), pos 3) ∷ (key 2 0 (pos 2) (pos 0), pos 3) ∷ (key 3 0 (pos 3) (pos 0), pos 1) ∷ [])
    ∷ wall Line center (pos 0) (pos 1) ((key 0 1 (pos 0) (pos 1), pos 3) ∷ (key 0 2 (pos 0) (pos 2), pos 3) ∷ (key 0 3 (pos 0) (pos 3), pos 1) ∷ [])
    ∷ wall Outgoing center (pos 1) (pos 1) ((key 1 1 (pos 1) (pos 1), pos 9) ∷ (key 2 2 (pos 2) (pos 2), pos 72) ∷ [])
    ∷ wall Outgoing center (pos 1) (pos 2) ((key 1 2 (pos 1) (pos 2), pos 9) ∷ [])
    ∷ wall Outgoing center (pos 1) (pos 3) ((key 1 3 (pos 1) (pos 3), pos 3) ∷ [])
    ∷ wall Outgoing center (pos 2) (pos 1) ((key 2 1 (pos 2) (pos 1), pos 9) ∷ [])
    ∷ wall Outgoing center (pos 3) (pos 1) ((key 3 1 (pos 3) (pos 1), pos 3) ∷ []) ∷ []

cubes_at_order_four : is_consistent cubes center 4 ≡ true
cubes_at_order_four = refl

-- ---- incoming rays go on as outgoing ones

incoming_ray_goes_on : is_consistent (wall Incoming center (pos 1) (pos 0) ((key 1 0 (pos 1) (pos 0), pos 1) ∷ []) ∷ wall Outgoing center (pos 1) (pos 0) ((key 1 0 (pos 1) (pos 0), pos 1) ∷ []) ∷ []) center 24 ≡ true
incoming_ray_goes_on = refl

abbrev two_incoming : List Wall
two_incoming = wall Incoming center (pos 1) (pos 0) ((key 1 0 (pos 1) (pos 0), pos 1) ∷ []) ∷ wall Incoming center (pos 0) (pos 1) ((key 0 1 (pos 0) (pos 1), pos 1) ∷ [])
    ∷ wall Outgoing center (pos 0) (pos 1) ((key 0 1 (pos 0) (pos 1), pos 1) ∷ []) ∷ wall Outgoing center (pos 1) (pos 0) ((key 1 0 (pos 1) (pos 0), pos 1) ∷ []) ∷ wall Outgoing center (pos 1) (pos 1) ((key 1 1 (pos 1) (pos 1), pos 1) ∷ []) ∷ []

two_incoming_rays : is_consistent two_incoming center 2 ≡ true
two_incoming_rays = refl
