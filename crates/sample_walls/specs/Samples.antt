-- Walls that samples are.
use Rattle.std.specs.Prelude.{List, [], ◌∷◌, ℤ, pos}
use Rattle.scattering.specs.Series.{Exp, Sum}
use Rattle.scattering.specs.Wall.{Line, Wall}
use Rattle.plane_geom.specs.Places.{point, pair}
use Rattle.plane_geom.specs.Shown.{point_of}
use Rattle.plane_geom.specs.declared.Point.{Point as CodePoint}
use Rattle.trunc_series.specs.declared.key.Key.{Key as CodeKey}
use Rattle.trunc_series.specs.Shown.{sum_of}
use Rattle.scatter_diagram.specs.declared.wall.WallKind.{WallKind as CodeKind}
use Rattle.scatter_diagram.specs.Kinds.{kind_of}
use Rattle.scatter_diagram.specs.Shown.{wall_from}

-- the line through the origin
abbrev pub axis : Exp → Sum → Wall
axis d f = wall_from Line (point (pos 0) (pos 0) (pos 1)) d f

-- the lines through the origin along (1, 0) and (0, 1)
abbrev pub axes_with : Sum → Sum → List Wall
axes_with f g = axis (pair (pos 1) (pos 0)) f ∷ axis (pair (pos 0) (pos 1)) g ∷ []

-- what a wall is made of
abbrev pub given_wall : CodeKind → CodePoint → ℤ → ℤ → List (CodeKey × ℤ) → Wall
given_wall kind at a b terms = wall_from (kind_of kind) (point_of at) (pair a b) (sum_of terms)
