-- Live walls as the program keeps them.
--     Shows l w              l has the least degree and the points of the wall w
--     AreLive ls ws          ls are the live ones of the walls ws
use Rattle.std.specs.Prelude.{◌≡◌, ◌⊎◌, ◌↔◌, ◌++◌, IsTrue, List}
use Rattle.scattering.specs.Collections.{In}
use Rattle.scattering.specs.Plane.{Point, IsPoint}
use Rattle.scattering.specs.Wall.{Wall, is_on, is_live}
use Rattle.scattering.specs.ActivePoint.{begins_at}
use Rattle.plane_geom.specs.Shown.{support_dir, OnSupport}
use Rattle.scatter_diagram.specs.Degrees.{opposite}
use Rattle.scatter_diagram.specs.declared.wall.Wall.{Wall as CodeWall}
use Rattle.scatter_diagram.specs.Shown.{walls_of}
use Rattle.joint_finder.specs.declared.live.LiveWall.{LiveWall}

pub record Shows (l : LiveWall) (w : Wall) : Type 0 where
  pub degree : IsTrue (begins_at l.degree w)
  pub dir : (support_dir l.support ≡ w.dir) ⊎ (support_dir l.support ≡ opposite w.dir)
  pub points : (p : Point) → IsPoint p → OnSupport l.support p ↔ IsTrue (is_on w p)

pub record AreLive (ls : List LiveWall) (ws : List Wall) : Type 0 where
  pub each : (l : LiveWall) → In l ls → (w : Wall) × In w ws × Shows l w
  pub all : (w : Wall) → In w ws → IsTrue (is_live w) → (l : LiveWall) × In l ls × Shows l w

-- the live ones of more walls
abbrev pub AddsLive : List CodeWall → List LiveWall → List LiveWall → Type 0
AddsLive ws old new = (seen : List Wall) → AreLive old seen → AreLive new (seen ++ walls_of ws)
