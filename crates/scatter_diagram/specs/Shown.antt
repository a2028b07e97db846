-- Walls as the definitions see them.
--     wall_of, walls_of        a wall, and a list of walls, of the program
--     IsSupportOf w s          s is the support of w, as a line, or the half-line from the start of an outgoing ray
use Rattle.std.specs.Prelude.{◌≡◌, ℕ, List, map, Option, MatchOption, IsTrue, false}
use Rattle.scattering.specs.Series.{Exp, Sum}
use Rattle.scattering.specs.Plane.{Point}
use Rattle.scattering.specs.Wall.{WallKind, Line, Outgoing, Wall, is_live}
use Rattle.scattering.specs.ActivePoint.{begins_at}
use Rattle.plane_geom.specs.Shown.{point_of, vector_of}
use Rattle.plane_geom.specs.declared.Support.{Support}
use Rattle.plane_geom.specs.declared.Support.TheVariants.{Line as WholeLine, Half}
use Rattle.scatter_diagram.specs.Degrees.{opposite}
use Rattle.scatter_diagram.specs.Kinds.{kind_of}
use Rattle.scatter_diagram.specs.declared.wall.Wall.{Wall as CodeWall}

abbrev pub wall_of : CodeWall → Wall
wall_of w = record { kind = kind_of w.kind; at = point_of w.at; dir = vector_of w.dir; function = w.function.terms }

-- a wall by its parts
abbrev pub wall_from : WallKind → Point → Exp → Sum → Wall
wall_from k p d f = record { kind = k; at = p; dir = d; function = f }

abbrev pub walls_of : List CodeWall → List Wall
walls_of ws = map wall_of ws

abbrev pub IsSupportOf : Wall → Support → Type 0
IsSupportOf w (WholeLine p d) = (w.kind ≡ Line) × (point_of p ≡ w.at) × (vector_of d ≡ w.dir)
IsSupportOf w (Half p d) = (w.kind ≡ Outgoing) × (point_of p ≡ w.at) × (vector_of d ≡ opposite w.dir)

-- the least degree of a term other than 1, or none where there is none
abbrev pub IsFirstDegree : Wall → Option ℕ → Type 0
IsFirstDegree w r = MatchOption r (is_live w ≡ false) (λ n. IsTrue (begins_at n w))

-- the same wall, with a function of the same order
abbrev pub IsSameWall : CodeWall → CodeWall → Type 0
IsSameWall w v = (wall_of w ≡ wall_of v) × (w.function.order ≡ v.function.order)
