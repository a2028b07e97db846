-- Worked examples of broken lines and tails, computed.
use Rattle.std.proofs.Common.{◌≡◌, refl, [], ◌∷◌}
use Rattle.std.specs.Prelude.{pos, negsuc}
use Rattle.scattering.specs.Series.{Exp}
use Rattle.scattering.specs.BrokenLine.{value}
use Rattle.scattering.specs.Tail.{tail_weight}
use Rattle.scattering.proofs.ExampleWalls.{exp, key, at, line_x, two_lines_and_ray}

-- ---- the three broken lines for (-1, -1) that end at (2, 1), among two lines and their ray

abbrev diagonal : Exp
diagonal = exp (negsuc 0) (negsuc 0)

straight_line : value two_lines_and_ray 2 diagonal [] ≡ (key 0 0 (negsuc 0) (negsuc 0), pos 1)
straight_line = refl

line_bent_at_the_first_axis : value two_lines_and_ray 2 diagonal (record { at = at (pos 2) (pos 0) (pos 1); key = key 1 0 (pos 1) (pos 0) } ∷ []) ≡ (key 1 0 (pos 0) (negsuc 0), pos 1)
line_bent_at_the_first_axis = refl

line_bent_at_the_second_axis : value two_lines_and_ray 2 diagonal (record { at = at (pos 0) (pos 1) (pos 1); key = key 0 1 (pos 0) (pos 1) } ∷ []) ≡ (key 0 1 (negsuc 0) (pos 0), pos 1)
line_bent_at_the_second_axis = refl

-- ---- a tail from (1, 1) with the root (1, -4) that bends at (5/4, 0)

weight_of_a_bent_tail : tail_weight (line_x ∷ []) 1 (exp (pos 1) (negsuc 3)) (record { at = at (pos 5) (pos 0) (pos 4); key = key 1 0 (pos 1) (pos 0) } ∷ []) ≡ 5
weight_of_a_bent_tail = refl
