-- The lines that `generate` makes from a number by a linear congruential generator, and what it prints of their completion.
-- All is this program's own.
--     state number k               the state after k draws
--     drawn m s                    what is drawn below m at the state s
--     generated_lines number       the six lines
--     summary_text number k rays stop      what is printed of a completion at order k with these rays
use Rattle.std.specs.Prelude.{ℕ, zero, suc, ◌+◌, ◌-◌, ◌*◌, ◌/◌, ◌%◌, ◌^◌, List, [], ◌∷◌, ◌++◌, map, length, replicate, ℤ, pos, negsuc, ◌-ℤ◌, slice_index_or, codes, decimal, Option}
use Rattle.std.specs.List.{sum_by}
use Rattle.scattering.specs.Series.{rest}
use Rattle.scattering.specs.Wall.{Wall}
use Rattle.scattering.specs.Stops.{StopCause}
use Rattle.scatter_text.specs.declared.file.Coordinate.{Coordinate}
use Rattle.scatter_text.specs.declared.file.LineRow.{LineRow}
use Rattle.scatter_text.specs.DiagramText.{line_of, closing_text}

-- ---- the draws

abbrev pub next_state : ℕ → ℕ
next_state s = (s * 1103515245 + 12345) % 2 ^ 31

-- the state after so many draws; it begins as the number itself, of which nothing is drawn
abbrev pub state : ℕ → ℕ → ℕ
state number zero = number
state number (suc k) = next_state (state number k)

-- the lowest eight bits of a state don't count
abbrev pub drawn : ℕ → ℕ → ℕ
drawn m s = s / 256 % m

-- ---- the lines

abbrev pub directions : List (ℤ × ℤ)
directions =
    (pos 1, pos 0) ∷ (pos 0, pos 1) ∷ (pos 1, pos 1) ∷ (pos 1, pos 2) ∷ (pos 2, pos 1) ∷
    (negsuc 0, pos 1) ∷ (negsuc 0, pos 2) ∷ (negsuc 1, pos 1) ∷ []

-- the direction at a place, counted from 0
abbrev pub direction_at : ℕ → ℤ × ℤ
direction_at place = slice_index_or directions place (pos 1, pos 0)

-- a coordinate from -20 to 20
abbrev pub coordinate_at : ℕ → Coordinate
coordinate_at place = record { num = pos place -ℤ pos 20; den = pos 1 }

-- those of one of six variables, counted from 0
abbrev pub powers_of_variable : ℕ → List ℤ
powers_of_variable i = replicate i (pos 0) ++ pos 1 ∷ replicate (5 - i) (pos 0)

-- the line with these draws, whose function is 1 and the variable times z^d for its direction d
abbrev pub line_drawn : ℕ → ℕ → ℕ → ℕ → LineRow
line_drawn place x y i = record {
  dx = (direction_at place).0;
  dy = (direction_at place).1;
  x = coordinate_at x;
  y = coordinate_at y;
  terms = record { c = pos 1; j = pos 1; powers = powers_of_variable i } ∷ [];
}

-- line i, counted from 0, with the draws 3·i + 1 to 3·i + 3
abbrev pub generated_line : ℕ → ℕ → LineRow
generated_line number i = line_drawn (drawn 8 (state number (3 * i + 1))) (drawn 41 (state number (3 * i + 2))) (drawn 41 (state number (3 * i + 3))) i

abbrev pub generated_lines : ℕ → List LineRow
generated_lines number = map (generated_line number) (0 ∷ 1 ∷ 2 ∷ 3 ∷ 4 ∷ 5 ∷ [])

-- the order to which they are completed
abbrev pub generated_order : ℕ
generated_order = 4

-- ---- what is printed

-- the terms of all rays, each ray's function without its term 1
abbrev pub term_count : List Wall → ℕ
term_count rays = sum_by (λ r. length (rest r.function)) rays

abbrev pub summary_text : ℕ → ℕ → List Wall → Option (ℕ × StopCause) → List ℕ
summary_text number order rays stop =
    line_of (codes "generated" ∷ decimal number ∷ []) ++ line_of (codes "order" ∷ decimal order ∷ []) ++ line_of (codes "rays" ∷ decimal (length rays) ∷ [])
    ++ line_of (codes "terms" ∷ decimal (term_count rays) ∷ []) ++ closing_text stop
