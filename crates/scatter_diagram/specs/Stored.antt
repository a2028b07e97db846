-- What a diagram keeps, and what contracts see of that.
--     picked ws js               the walls at the positions js
--     stored_diagram c ws js     the first c of these as lines, the others as rays
--     IsStored n c ws bs js      the walls run by run, each run from a bound to the next, and where lines and rays stand
use Rattle.std.specs.Prelude.{◌≡◌, ℕ, ◌<◌, ◌≤◌, List, [], map, length, take, drop, slice_index_or, pos}
use Rattle.limits.specs.Limits.{highest_order}
use Rattle.scattering.specs.Collections.{Every}
use Rattle.scattering.specs.Wall.{Line, Outgoing, Wall, Diagram, walls}
use Rattle.scattering.specs.Completion.{IsReduced}
use Rattle.scattering.specs.SupportingLine.{runs, parts, AreBounds}
use Rattle.scatter_diagram.specs.declared.wall.Wall.{Wall as CodeWall}
use Rattle.scatter_diagram.specs.Shown.{walls_of}
use Rattle.scatter_diagram.specs.Listed.{AreOfOrder, SeenDiagram}

-- what stands past the end of a list
abbrev pub no_wall : Wall
no_wall = record { kind = Line; at = record { x = pos 0; y = pos 0; w = pos 1 }; dir = record { a = pos 1; b = pos 0 }; function = [] }

abbrev pub picked : List CodeWall → List ℕ → List Wall
picked ws js = map (λ j. slice_index_or (walls_of ws) j no_wall) js

abbrev pub stored_diagram : ℕ → List CodeWall → List ℕ → Diagram
stored_diagram c ws js = record { initial = take c (picked ws js); rays = drop c (picked ws js) }

abbrev pub shown_diagram : ℕ → ℕ → List CodeWall → List ℕ → SeenDiagram
shown_diagram n c ws js = record { order = n; diagram = stored_diagram c ws js }

-- of order n, with c lines
pub record IsStored (n c : ℕ) (ws : List CodeWall) (bounds positions : List ℕ) : Type 0 where
  pub order : n ≤ highest_order
  pub functions : AreOfOrder n ws
  pub lines : Every (λ w. w.kind ≡ Line) (stored_diagram c ws positions).initial
  pub outgoing : Every (λ r. r.kind ≡ Outgoing) (stored_diagram c ws positions).rays
  pub reduced : IsReduced (stored_diagram c ws positions).rays
  pub few : c ≤ length positions
  pub within : Every (λ j. j < length ws) positions
  pub some : 0 < length bounds
  pub rise : AreBounds 0 (length ws) bounds
  pub runs : map walls_of (parts bounds ws) ≡ runs (walls (stored_diagram c ws positions))
