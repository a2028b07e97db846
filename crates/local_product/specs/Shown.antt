-- Half-walls of the program as the definitions see them, and what is carried across them.
--     half_of, halves_of        half-walls of the program
--     carried n hs m            the image of z^m after these half-walls
--     carried_mass n hs m       the mass of its majorant
--     counted_weight m          a mass as it is counted: to 2^126 + 1
use Rattle.std.specs.Prelude.{◌≡◌, ℕ, ◌+◌, ◌≤◌, ◌++◌, Bool, neg_ℤ, nat_abs, List, map, flat_map, min}
use Rattle.limits.specs.Limits.{largest_weight}
use Rattle.scattering.specs.Series.{Exp, Sum, mass_to, monomial, z}
use Rattle.scattering.specs.LocalProduct.{Half, along, halves, half_walls, carry, carry_majorant, axis_x, axis_y}
use Rattle.scattering.specs.Plane.{turns_before}
use Rattle.scattering.specs.SupportingLine.{by_line}
use Rattle.scattering.specs.Wall.{walls}
use Rattle.plane_geom.specs.Shown.{point_of}
use Rattle.plane_geom.specs.declared.Point.{Point as CodePoint}
use Rattle.scatter_diagram.specs.declared.wall.Wall.{Wall as CodeWall}
use Rattle.scatter_diagram.specs.Shown.{wall_of}
use Rattle.trunc_series.specs.declared.arithmetic.Arithmetic.TheVariants.{Wrapping}
use Rattle.wall_auto.specs.ByDegree.{StandsByDegree}
use Rattle.wall_auto.specs.Sign.{sign}
use Rattle.local_product.specs.declared.half_walls.HalfWall.{HalfWall}
use Rattle.local_product.specs.declared.wall_tables.WallTables.{WallTables}
use Rattle.local_product.specs.Tabled.{SeenTables, tabled_walls}

abbrev pub half_of : HalfWall → Half
half_of h = record { wall = wall_of h.wall.now; side = neg_ℤ (sign h.crossing) }

abbrev pub halves_of : List HalfWall → List Half
halves_of hs = map half_of hs

-- by the angle of the direction along which it goes
abbrev pub half_before : HalfWall → HalfWall → Bool
half_before g h = turns_before (along (half_of g)) (along (half_of h))

-- the half-walls of one wall more
abbrev pub AddsHalves : CodePoint → CodeWall → List HalfWall → List HalfWall → Type 0
AddsHalves p w old new = halves_of new ≡ halves_of old ++ halves (point_of p) (wall_of w)

-- those of the walls of a run, wall by wall; a wall that isn't on the point has none
abbrev pub AddsRun : CodePoint → List WallTables → List HalfWall → List HalfWall → Type 0
AddsRun p ts old new = halves_of new ≡ halves_of old ++ flat_map (halves (point_of p)) (tabled_walls ts)

-- those of all walls, run by run
abbrev pub AreHalvesOf : SeenTables → CodePoint → List HalfWall → Type 0
AreHalvesOf t p hs = halves_of hs ≡ flat_map (halves (point_of p)) (by_line (walls t.diagram.diagram))

-- the same in order
abbrev pub AreHalfWalls : SeenTables → CodePoint → List HalfWall → Type 0
AreHalfWalls t p hs = halves_of hs ≡ half_walls (walls t.diagram.diagram) (point_of p)

-- an exponent of numbers at most 1 in absolute value, as an axis has
abbrev pub IsUnit : Exp → Type 0
IsUnit m = (nat_abs m.a ≤ 1) × (nat_abs m.b ≤ 1)

abbrev pub carried : ℕ → List HalfWall → Exp → Sum
carried n hs m = carry n (halves_of hs) (monomial (z m))

abbrev pub carried_mass : ℕ → List HalfWall → Exp → ℕ
carried_mass n hs m = mass_to n (carry_majorant n (halves_of hs) (monomial (z m)))

-- the parts of that image by degree, modulo 2^128
abbrev pub IsImageByDegree : ℕ → List HalfWall → Exp → List Sum → Type 0
IsImageByDegree n hs m parts = StandsByDegree Wrapping n parts (carried n hs m)

-- the mass of the majorants of both axes' images after these half-walls
abbrev pub majorants_mass : ℕ → List Half → ℕ
majorants_mass n hs = mass_to n (carry_majorant n hs (monomial (z axis_x))) + mass_to n (carry_majorant n hs (monomial (z axis_y)))

abbrev pub counted_weight : ℕ → ℕ
counted_weight m = min m (largest_weight + 1)
