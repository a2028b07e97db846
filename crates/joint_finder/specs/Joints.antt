-- The active points of walls, as a list.
--     AreJoints n ws ps          ps are the points that are active at order n
--     AreJointsBefore n ws ps    ps are those at the order before n
--     IsStoppedByFar n ws s      s is want of memory, or the stop at order n for an active point that isn't near
use Rattle.std.specs.Prelude.{◌≡◌, ℕ, ◌+◌, Bool, IsTrue, List, map}
use Rattle.scattering.specs.Collections.{In, Every, EveryPair, Distinct}
use Rattle.scattering.specs.Plane.{Point, IsPoint, point_before, point_eq}
use Rattle.scattering.specs.Wall.{Wall}
use Rattle.scattering.specs.ActivePoint.{is_active}
use Rattle.scattering.specs.Stops.{PointTooLarge, SomeFar}
use Rattle.scatter_diagram.specs.declared.stop.Stop.{Stop}
use Rattle.scatter_diagram.specs.Stopped.{IfStop}
use Rattle.plane_geom.specs.declared.Point.{Point as CodePoint}
use Rattle.plane_geom.specs.Shown.{point_of}

abbrev pub points_of : List CodePoint → List Point
points_of ps = map point_of ps

abbrev pub same_point : CodePoint → CodePoint → Bool
same_point p q = point_eq (point_of p) (point_of q)

-- ps are the points that are active at order n, sorted by x and then y, each once
pub record AreJoints (n : ℕ) (ws : List Wall) (ps : List Point) : Type 0 where
  pub each : Every (λ p. IsPoint p × IsTrue (is_active n ws p)) ps
  pub all : (p : Point) → IsPoint p → IsTrue (is_active n ws p) → In p ps
  pub once : Distinct ps
  pub sorted : EveryPair (λ p q. IsTrue (point_before p q)) ps

-- ps are those of the order before n
abbrev pub AreJointsBefore : ℕ → List Wall → List Point → Type 0
AreJointsBefore n ws ps = (k : ℕ) → k + 1 ≡ n → AreJoints k ws ps

abbrev pub IsStoppedByFar : ℕ → List Wall → Stop → Type 0
IsStoppedByFar order ws s = IfStop s (λ n c. (n ≡ order) × (c ≡ PointTooLarge) × SomeFar order ws)
