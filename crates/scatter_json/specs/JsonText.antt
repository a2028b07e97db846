-- The JSON text of a completed diagram, with the cause where the computation stopped before its order.
use Rattle.std.specs.Prelude.{◌≡◌, ℕ, List, [], ◌∷◌, ◌++◌, map, ℤ, codes, Option, Some, None}
use Rattle.std.specs.Fmt.{signed_decimal}
use Rattle.std.specs.List.{AllZip}
use Rattle.serde_json.specs.Data.{Data, number, unsigned, string, array, object, Members, member, no_members}
use Rattle.serde_json.specs.Find.{of_integer}
use Rattle.serde_json.specs.View.{items_of}
use Rattle.serde_json.specs.Written.{compact_text}
use Rattle.scattering.specs.Series.{Exp}
use Rattle.scattering.specs.Plane.{Point}
use Rattle.scattering.specs.Wall.{Wall, Diagram}
use Rattle.scattering.specs.Stops.{StopCause}
use Rattle.scatter_text.specs.declared.file.Coordinate.{Coordinate}
use Rattle.scatter_text.specs.Grammar.{coordinate_text}
use Rattle.scatter_text.specs.DiagramText.{Row, AreRows, IsRatioOf, first_powers, cause_word}

abbrev pub list : List Data → Data
list ds = array (items_of ds)

abbrev pub natural : ℕ → Data
natural n = number (unsigned n)

abbrev pub integer : ℤ → Data
integer n = number (of_integer n)

-- `[C, J, [P1, .., PR]]`
abbrev pub row_value : ℕ → Row → Data
row_value vars r = list (string (signed_decimal r.c) ∷ natural r.j ∷ list (map natural (first_powers vars r.powers)) ∷ [])

-- `[X, Y]`
abbrev pub point_value : Coordinate → Coordinate → Data
point_value x y = list (string (coordinate_text x) ∷ string (coordinate_text y) ∷ [])

-- `[DX, DY]`
abbrev pub direction_value : Exp → Data
direction_value d = list (integer d.a ∷ integer d.b ∷ [])

-- the value of a point
abbrev pub IsPointValue : Point → Data → Type 0
IsPointValue p d = (x y : Coordinate) × IsRatioOf p.x p.w x × IsRatioOf p.y p.w y × (d ≡ point_value x y)

-- `{"at": [X, Y], "dir": [DX, DY], "terms": [..]}`
abbrev pub wall_object : Data → Data → List Data → Data
wall_object at dir terms = object (member (codes "at") at (member (codes "dir") dir (member (codes "terms") (list terms) no_members)))

abbrev pub wall_value : ℕ → Exp → Coordinate → Coordinate → List Row → Data
wall_value vars d x y rows = wall_object (point_value x y) (direction_value d) (map (row_value vars) rows)

-- the value of a wall
abbrev pub IsWallValue : ℕ → Wall → Data → Type 0
IsWallValue vars w d = (x y : Coordinate) × (rows : List Row) × IsRatioOf w.at.x w.at.w x × IsRatioOf w.at.y w.at.w y × AreRows w rows × (d ≡ wall_value vars w.dir x y rows)

-- `"stopped": [J, CAUSE]` where order J was stopped, before the other members
abbrev pub stopped_value : ℕ → StopCause → Data
stopped_value order cause = list (natural order ∷ string (cause_word cause) ∷ [])

abbrev pub stopped_before : Option (ℕ × StopCause) → Members → Members
stopped_before None more = more
stopped_before (Some (order, cause)) more = member (codes "stopped") (stopped_value order cause) more

-- the members in the order of their keys
abbrev pub diagram_value : ℕ → ℕ → List Data → List Data → Option (ℕ × StopCause) → Data
diagram_value vars order lines rays stop = object
    (member (codes "lines") (list lines) (member (codes "order") (natural order) (member (codes "rays") (list rays)
    (member (codes "scatter") (natural 1) (stopped_before stop (member (codes "vars") (natural vars) no_members))))))

-- the same, with this value of `stopped`
abbrev pub cut_object : ℕ → ℕ → List Data → List Data → Data → Data
cut_object vars order lines rays stopped = object
    (member (codes "lines") (list lines) (member (codes "order") (natural order) (member (codes "rays") (list rays)
    (member (codes "scatter") (natural 1) (member (codes "stopped") stopped (member (codes "vars") (natural vars) no_members))))))

-- the value of a diagram that is completed to this order, and of what stopped a later order
abbrev pub IsDiagramValue : ℕ → ℕ → Diagram → Option (ℕ × StopCause) → Data → Type 0
IsDiagramValue vars order e stop d = (lines rays : List Data) × AllZip (IsWallValue vars) e.initial lines × AllZip (IsWallValue vars) e.rays rays
    × (d ≡ diagram_value vars order lines rays stop)

-- its text with no space, and a line feed
abbrev pub IsJsonText : ℕ → ℕ → Diagram → Option (ℕ × StopCause) → List ℕ → Type 0
IsJsonText vars order e stop text = (d : Data) × IsDiagramValue vars order e stop d × (text ≡ compact_text d ++ 10 ∷ [])
