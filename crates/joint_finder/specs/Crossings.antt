-- The points where live walls cross.
--     Meets n l m p           p is on both, they aren't parallel, and their least degrees sum to at most n
--     Adds P old new          new are the points old and those with P
--     HasFar P                a point with P isn't near
--     StopsFar n P s          s is want of memory, or the stop at order n for such a point
use Rattle.std.specs.Prelude.{◌≡◌, ◌≢◌, ℕ, ◌+◌, ◌≤◌, ◌⊎◌, pos, List, ◌<◌, drop, slice_index_or}
use Rattle.scattering.specs.Collections.{In}
use Rattle.scattering.specs.Series.{det}
use Rattle.scattering.specs.Plane.{Point, IsPoint, IsNear}
use Rattle.scattering.specs.Stops.{PointTooLarge}
use Rattle.plane_geom.specs.declared.Point.{Point as CodePoint}
use Rattle.plane_geom.specs.Shown.{support_dir, OnSupport}
use Rattle.scatter_diagram.specs.declared.stop.Stop.{Stop}
use Rattle.scatter_diagram.specs.Stopped.{IfStop}
use Rattle.joint_finder.specs.Joints.{points_of}
use Rattle.joint_finder.specs.declared.live.LiveWall.{LiveWall}

pub record Meets (n : ℕ) (l m : LiveWall) (p : Point) : Type 0 where
  pub fits : l.degree + m.degree ≤ n
  pub crossing : det (support_dir l.support) (support_dir m.support) ≢ pos 0
  pub first : OnSupport l.support p
  pub second : OnSupport m.support p

-- where l meets one of the walls
abbrev pub MeetsOne : ℕ → LiveWall → List LiveWall → Point → Type 0
MeetsOne n l ms p = (m : LiveWall) × In m ms × Meets n l m p

-- where two of the walls meet
abbrev pub AreMeeting : ℕ → List LiveWall → Point → Type 0
AreMeeting n ls p = (l : LiveWall) × In l ls × MeetsOne n l ls p

pub record Adds (P : Point → Type 0) (old new : List CodePoint) : Type 0 where
  pub keeps : (p : Point) → In p (points_of old) → In p (points_of new)
  pub each : (p : Point) → In p (points_of new) → In p (points_of old) ⊎ P p
  pub all : (p : Point) → IsPoint p → P p → In p (points_of new)

abbrev pub HasFar : (Point → Type 0) → Type 0
HasFar P = (p : Point) × IsPoint p × P p × (IsNear p → ⊥)

abbrev pub StopsFar : ℕ → (Point → Type 0) → Stop → Type 0
StopsFar n P s = IfStop s (λ order cause. (order ≡ n) × (cause ≡ PointTooLarge) × HasFar P)

-- ps are where walls of ls meet, with all meetings of the first i of them with later ones
pub record Met (n i : ℕ) (ls : List LiveWall) (ps : List CodePoint) : Type 0 where
  pub each : (p : Point) → In p (points_of ps) → AreMeeting n ls p
  pub all : (k : ℕ) (l : LiveWall) → k < i → l ≡ slice_index_or ls k l → (p : Point) → IsPoint p → MeetsOne n l (drop (k + 1) ls) p → In p (points_of ps)
