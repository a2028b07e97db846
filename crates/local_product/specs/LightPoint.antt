-- A point whose correction is read off images.
use Rattle.std.specs.Prelude.{◌≤◌, List}
use Rattle.plane_geom.specs.declared.Point.{Point as CodePoint}
use Rattle.local_product.specs.declared.half_walls.HalfWall.{HalfWall}
use Rattle.local_product.specs.Obstruction.{IsConsistentBefore, IsLightAt}
use Rattle.local_product.specs.Shown.{AreHalfWalls}
use Rattle.local_product.specs.Tabled.{SeenTables, HalvesHaveTables}

-- hs are the half-walls at p, which is consistent at the order before and light
pub record IsLightPoint (t : SeenTables) (p : CodePoint) (hs : List HalfWall) : Type 0 where
  pub some : 1 ≤ t.order
  pub consistent : IsConsistentBefore t.diagram p t.order
  pub light : IsLightAt t.diagram p t.order
  pub halves : AreHalfWalls t p hs
  pub tables : HalvesHaveTables t.order hs
