-- Worked examples of crossings, half-walls, local products, weights and corrections, computed.
use Rattle.std.proofs.Common.{◌≡◌, refl, List, [], ◌∷◌, map, true, false}
use Rattle.std.specs.Prelude.{ℤ, pos, negsuc, length, ◌*ℤ◌, nat_lt, ◌^◌}
use Rattle.scattering.specs.Series.{coef, det, z, monomial}
use Rattle.scattering.specs.Wall.{Line, Outgoing, Wall}
use Rattle.scattering.specs.LocalProduct.{along, half_walls, image, axis_x, axis_y, weight, cross}
use Rattle.scattering.proofs.ExampleWalls.{exp, key, at, center, wall, line_x, two_lines, two_lines_and_ray}

-- ---- crossings of z^(0, 1) by the direction (1, 0) with 1 + t1·x

crossing_with_plus : cross 2 (exp (pos 1) (pos 0)) line_x.function (pos 1) (monomial (z axis_y)) ≡ (key 0 0 (pos 0) (pos 1), pos 1) ∷ (key 1 0 (pos 1) (pos 1), pos 1) ∷ []
crossing_with_plus = refl

crossing_with_minus_at_one : coef (cross 2 (exp (pos 1) (pos 0)) line_x.function (negsuc 0) (monomial (z axis_y))) (key 1 0 (pos 1) (pos 1)) ≡ negsuc 0
crossing_with_minus_at_one = refl

crossing_with_minus_at_two : coef (cross 2 (exp (pos 1) (pos 0)) line_x.function (negsuc 0) (monomial (z axis_y))) (key 2 0 (pos 2) (pos 1)) ≡ pos 1
crossing_with_minus_at_two = refl

-- ---- half-walls, counter-clockwise from (1, 0)

half_walls_of_two_lines : map along (half_walls two_lines center) ≡ exp (pos 1) (pos 0) ∷ exp (pos 0) (pos 1) ∷ exp (negsuc 0) (pos 0) ∷ exp (pos 0) (negsuc 0) ∷ []
half_walls_of_two_lines = refl

-- the ray goes along -(1, 1), and starts there, so it has one
half_walls_with_ray : map along (half_walls two_lines_and_ray center) ≡ exp (pos 1) (pos 0) ∷ exp (pos 0) (pos 1) ∷ exp (negsuc 0) (pos 0) ∷ exp (negsuc 0) (negsuc 0) ∷ exp (pos 0) (negsuc 0) ∷ []
half_walls_with_ray = refl

-- where it goes on it has two
half_walls_beyond_start : map along (half_walls two_lines_and_ray (at (negsuc 1) (negsuc 1) (pos 1))) ≡ exp (pos 1) (pos 1) ∷ exp (negsuc 0) (negsuc 0) ∷ []
half_walls_beyond_start = refl

-- and on the other side of its start it isn't
half_walls_before_start : map along (half_walls two_lines_and_ray (at (pos 2) (pos 2) (pos 1))) ≡ []
half_walls_before_start = refl

-- ---- the local product of two lines at order 2

image_of_x : coef (image two_lines center 2 axis_x) (key 1 1 (pos 2) (pos 1)) ≡ pos 1
image_of_x = refl

image_of_y : coef (image two_lines center 2 axis_y) (key 1 1 (pos 1) (pos 2)) ≡ negsuc 0
image_of_y = refl

terms_of_image : length (image two_lines center 2 axis_x) ≡ 6
terms_of_image = refl

weight_of_two_lines : weight two_lines center 2 ≡ 16
weight_of_two_lines = refl

-- its correction is -t1·t2·z^(1, 1)
correction_of_two_lines : coef (image two_lines center 2 axis_x) (key 1 1 (pos 2) (pos 1)) *ℤ pos 1 ≡ negsuc 0 *ℤ det (exp (pos 1) (pos 1)) axis_x
correction_of_two_lines = refl

-- ---- lines along (1, 0) and (1, 2): the correction is -2·t1·t2·z^(2, 2), and the gcd of its exponent 2

abbrev lines_of_determinant_two : List Wall
lines_of_determinant_two = wall Line center (pos 1) (pos 0) ((key 1 0 (pos 1) (pos 0), pos 1) ∷ []) ∷ wall Line center (pos 1) (pos 2) ((key 0 1 (pos 1) (pos 2), pos 1) ∷ []) ∷ []

correction_of_determinant_two_at_x : coef (image lines_of_determinant_two center 2 axis_x) (key 1 1 (pos 3) (pos 2)) *ℤ pos 1 ≡ negsuc 1 *ℤ det (exp (pos 2) (pos 2)) axis_x
correction_of_determinant_two_at_x = refl

correction_of_determinant_two_at_y : coef (image lines_of_determinant_two center 2 axis_y) (key 1 1 (pos 2) (pos 3)) *ℤ pos 1 ≡ negsuc 1 *ℤ det (exp (pos 2) (pos 2)) axis_y
correction_of_determinant_two_at_y = refl

-- ---- weights of two lines with large coefficients, beside the ray of order 2

abbrev large : ℤ
large = pos 2147483647

abbrev large_lines : List Wall
large_lines = wall Line center (pos 1) (pos 0) ((key 1 0 (pos 1) (pos 0), large) ∷ []) ∷ wall Line center (pos 0) (pos 1) ((key 0 1 (pos 0) (pos 1), large) ∷ [])
    ∷ wall Outgoing center (pos 1) (pos 1) ((key 1 1 (pos 1) (pos 1), pos 4611686014132420609) ∷ []) ∷ []

large_weight_at_order_four : nat_lt (2 ^ 126) (weight large_lines center 4) ≡ true
large_weight_at_order_four = refl

large_weight_at_order_three : nat_lt (2 ^ 100) (weight large_lines center 3) ≡ false
large_weight_at_order_three = refl
