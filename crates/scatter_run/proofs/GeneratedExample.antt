-- The lines that are made from 7, computed, so that a change of the definition is seen.
use Rattle.std.proofs.Common.{◌≡◌, [], ◌∷◌, map, refl, ℤ}
use Rattle.std.specs.Prelude.{pos, negsuc}
use Rattle.scatter_text.specs.declared.file.LineRow.{LineRow}
use Rattle.scatter_run.specs.Generated.{generated_lines, powers_of_variable}

-- the direction and the point of a line
shown : LineRow → (ℤ × ℤ) × (ℤ × ℤ)
shown l = ((l.dx, l.dy), (l.x.num, l.y.num))

lines_of_seven : map shown (generated_lines 7)
    ≡ ((negsuc 0, pos 1), (pos 6, pos 8)) ∷ ((negsuc 0, pos 1), (pos 17, pos 19)) ∷ ((pos 1, pos 0), (negsuc 6, negsuc 15)) ∷ ((negsuc 0, pos 1), (pos 15, pos 6))
    ∷ ((pos 1, pos 2), (negsuc 11, pos 0)) ∷ ((pos 1, pos 0), (pos 3, negsuc 12)) ∷ []
unfolding shown
lines_of_seven = refl

third_variable : powers_of_variable 2 ≡ pos 0 ∷ pos 0 ∷ pos 1 ∷ pos 0 ∷ pos 0 ∷ pos 0 ∷ []
third_variable = refl
