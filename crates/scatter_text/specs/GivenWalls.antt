-- The walls that the lines of a file stand for.
use Rattle.std.specs.List.{AllZip}
use Rattle.std.specs.Prelude.{◌≡◌, ℕ, List, ◌∷◌, map, ℤ, pos, ◌*ℤ◌, nat_abs, slice_index_or}
use Rattle.limits.specs.Limits.{highest_order}
use Rattle.scattering.specs.Collections.{in_order}
use Rattle.scattering.specs.Series.{Exp, Powers, Term, Sum, scale, unit, key_before}
use Rattle.scattering.specs.Plane.{IsPoint}
use Rattle.scattering.specs.Wall.{Wall, Line, cut_walls}
use Rattle.scatter_diagram.specs.Listed.{SeenInitial}
use Rattle.scatter_text.specs.declared.file.TermRow.{TermRow}
use Rattle.scatter_text.specs.declared.file.LineRow.{LineRow}
use Rattle.scatter_text.specs.declared.file.TextFile.{TextFile}

-- powers that are not given are 0
abbrev pub power_at : List ℤ → ℕ → ℕ
power_at ps i = nat_abs (slice_index_or ps i (pos 0))

abbrev pub powers_at : List ℤ → Powers
powers_at ps = record { t1 = power_at ps 0; t2 = power_at ps 1; t3 = power_at ps 2; t4 = power_at ps 3; t5 = power_at ps 4; t6 = power_at ps 5; t7 = power_at ps 6; t8 = power_at ps 7 }

-- c·t^P·z^(j·d)
abbrev pub term_given : Exp → TermRow → Term
term_given d t = (record { powers = powers_at t.powers; exp = scale t.j d }, t.c)

-- 1 and the terms
abbrev pub sum_given : Exp → List TermRow → Sum
sum_given d terms = (unit, pos 1) ∷ map (term_given d) terms

-- the same, by their keys
abbrev pub function_of : Exp → List TermRow → Sum
function_of d terms = in_order (λ s t. key_before s.0 t.0) (sum_given d terms)

abbrev pub direction_of : LineRow → Exp
direction_of row = record { a = row.dx; b = row.dy }

-- the line through (x, y) in that direction, with that function
pub record IsWallOf (row : LineRow) (w : Wall) : Type 0 where
  pub kind : w.kind ≡ Line
  pub point : IsPoint w.at
  pub x : w.at.x *ℤ row.x.den ≡ row.x.num *ℤ w.at.w
  pub y : w.at.y *ℤ row.y.den ≡ row.y.num *ℤ w.at.w
  pub direction : w.dir ≡ direction_of row
  pub function : w.function ≡ function_of (direction_of row) row.terms

-- the lines that a file says, in order, cut to the highest order
pub record IsInitialOf (file : TextFile) (i : SeenInitial) : Type 0 where
  pub given : List Wall
  pub vars : file.vars ≡ pos i.vars
  pub walls : AllZip IsWallOf file.lines given
  pub lines : i.lines ≡ cut_walls highest_order given
