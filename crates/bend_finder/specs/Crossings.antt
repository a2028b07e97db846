-- Where a stretch from p along e crosses walls that aren't parallel to it.
--     MeetsAcross p e w q             it crosses w at q
--     AreFoundAhead ls p e ps told          likewise, with the points of walls on the stretch
use Rattle.std.specs.Prelude.{◌≡◌, ◌≢◌, ◌⊎◌, Bool, IsTrue, IsFalse, List, pos}
use Rattle.scattering.specs.Collections.{In}
use Rattle.scattering.specs.Series.{Exp, det}
use Rattle.scattering.specs.Plane.{Point, IsPoint, IsNear, Beyond}
use Rattle.scattering.specs.Wall.{Wall, is_on}
use Rattle.plane_geom.specs.Shown.{point_of}
use Rattle.plane_geom.specs.declared.Point.{Point as CodePoint}
use Rattle.joint_finder.specs.Joints.{points_of}
use Rattle.joint_finder.specs.Strands.{OfSome}
use Rattle.scatter_diagram.specs.declared.wall.Wall.{Wall as CodeWall}

abbrev pub MeetsAcross : Point → Exp → Wall → Point → Type 0
MeetsAcross p e w q = IsPoint q × Beyond p e q × IsTrue (is_on w q) × (det w.dir e ≢ pos 0)

abbrev pub CrossesSome : List Wall → Point → Exp → Point → Type 0
CrossesSome ls p e q = (w : Wall) × In w ls × MeetsAcross p e w q

-- the point of a wall lies on the stretch
abbrev pub IsStartAhead : List Wall → Point → Exp → Point → Type 0
IsStartAhead ls p e q = (w : Wall) × In w ls × (q ≡ w.at) × Beyond p e q

-- ps are points of the stretch, with all its near crossings of the walls ls and all points of these walls on it
pub record AreFoundAhead (ls : List Wall) (p : Point) (e : Exp) (ps : List CodePoint) (told : Bool) : Type 0 where
  pub each : (q : Point) → In q (points_of ps) → IsPoint q × Beyond p e q
  pub crossings : (q : Point) → CrossesSome ls p e q → IsNear q → In q (points_of ps)
  pub starts : (q : Point) → IsStartAhead ls p e q → In q (points_of ps)
  pub far : IsTrue told → (q : Point) × CrossesSome ls p e q × (IsNear q → ⊥)
  pub near : IsFalse told → (q : Point) → CrossesSome ls p e q → IsNear q

-- the walls g give more points: `new` has the points `old` and these, and told tells whether g is crossed elsewhere
pub record AddsFound (g : List Wall) (p : Point) (e : Exp) (old new : List CodePoint) (told : Bool) : Type 0 where
  pub keeps : (q : Point) → In q (points_of old) → In q (points_of new)
  pub each : (q : Point) → In q (points_of new) → In q (points_of old) ⊎ (IsPoint q × Beyond p e q)
  pub crossings : (q : Point) → CrossesSome g p e q → IsNear q → In q (points_of new)
  pub starts : (q : Point) → IsStartAhead g p e q → In q (points_of new)
  pub far : IsTrue told → (q : Point) × CrossesSome g p e q × (IsNear q → ⊥)
  pub near : IsFalse told → (q : Point) → CrossesSome g p e q → IsNear q

-- of one of the walls
abbrev pub IsStartOf : Point → Exp → CodeWall → Point → Type 0
IsStartOf p e w q = (q ≡ point_of w.at) × Beyond p e q

abbrev pub IsStartOfSome : List CodeWall → Point → Exp → Point → Type 0
IsStartOfSome ws p e q = OfSome (IsStartOf p e) ws q
