-- Reduced rays, and the completion of initial walls.
--     IsReduced rays            live, and in the order of starts and directions, so no two have both
--     IsConsistent k ws         consistent at every point with rational coordinates
--     IsCompletion given k e    e is the completion of the walls `given` at order k
--     lowered n e               e cut to the lower order n
use Rattle.std.specs.Prelude.{◌≡◌, ℕ, Bool, ◌&&◌, ◌||◌, IsTrue, List, filter}
use Rattle.scattering.specs.Collections.{Every, EveryPair}
use Rattle.scattering.specs.Series.{exp_before}
use Rattle.scattering.specs.Plane.{Point, IsPoint, point_before, point_eq}
use Rattle.scattering.specs.Wall.{Outgoing, Wall, Diagram, IsWall, is_live, cut_walls, walls}
use Rattle.scattering.specs.LocalProduct.{IsConsistentAt}

-- by start, then by direction
abbrev pub ray_before : Wall → Wall → Bool
ray_before r s = point_before r.at s.at || (point_eq r.at s.at && exp_before r.dir s.dir)

-- every ray is live, and each is before each later one, so no two have one start and direction
pub record IsReduced (rays : List Wall) : Type 0 where
  pub live : Every (λ r. IsTrue (is_live r)) rays
  pub rises : EveryPair (λ r s. IsTrue (ray_before r s)) rays

abbrev pub IsConsistent : ℕ → List Wall → Type 0
IsConsistent k ws = (p : Point) → IsPoint p → IsConsistentAt ws k p

-- e is the completion of these initial walls at order k
pub record IsCompletion (given : List Wall) (k : ℕ) (e : Diagram) : Type 0 where
  pub initial : e.initial ≡ cut_walls k given
  pub outgoing : Every (λ r. r.kind ≡ Outgoing) e.rays
  pub proper : Every (IsWall k) e.rays
  pub reduced : IsReduced e.rays
  pub consistent : IsConsistent k (walls e)

-- cut to a lower order, without the rays that become 1
abbrev pub lowered : ℕ → Diagram → Diagram
lowered n e = record { initial = cut_walls n e.initial; rays = filter is_live (cut_walls n e.rays) }
