-- Points at which all walls turn to one side of an axis, so that the image of the axis' monomial tells the correction.
--     Turns p σ u w            w turns to the side σ of u, or goes through p along u
--     IsEdge p axis hs         the walls on p, whose half-walls these are, turn to one side of the axis
use Rattle.std.specs.Prelude.{◌≡◌, IsFalse, nat_abs, List, ℤ, pos, ◌*ℤ◌, ◌≤ℤ◌}
use Rattle.scattering.specs.Series.{Exp, det}
use Rattle.scattering.specs.Plane.{Point}
use Rattle.scattering.specs.Wall.{Wall, starts_at}
use Rattle.scattering.specs.LocalProduct.{half_walls}
use Rattle.degree_theory.specs.OneSide.{IsOneSided}
use Rattle.plane_geom.specs.Shown.{point_of}
use Rattle.plane_geom.specs.declared.Point.{Point as CodePoint}
use Rattle.vertex_lie.specs.declared.leading_part.Axis.{Axis}
use Rattle.vertex_lie.specs.Leading.{axis_of}
use Rattle.local_product.specs.declared.half_walls.HalfWall.{HalfWall}
use Rattle.local_product.specs.Shown.{halves_of}

abbrev pub Turns : Point → ℤ → Exp → Wall → Type 0
Turns p σ u w = (pos 0 ≤ℤ (σ *ℤ det u w.dir)) × (det u w.dir ≡ pos 0 → IsFalse (starts_at w p))

abbrev pub IsEdge : CodePoint → Axis → List HalfWall → Type 0
IsEdge p axis hs = (ws : List Wall) → halves_of hs ≡ half_walls ws (point_of p)
    → (σ : ℤ) × (nat_abs σ ≡ 1) × IsOneSided ws (point_of p) σ (axis_of axis)
