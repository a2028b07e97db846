-- Marks of a stretch from p along e: points of it, each with walls along one line of which one is there.
--     marked ms                   the points of marks
--     IsMarkedAt ms q w           w stands with a mark at q
--     AreMarks ls g p e rs ms t   ms are the marks of the walls g, rs are runs along the stretch, t tells of crossings too far away
--     AreMarksOf ls p e rs ms t   those of all walls ls, sorted
--     IsCountAt ms q n            the first n marks are at q, and the next one isn't
use Rattle.std.specs.Prelude.{◌≡◌, ◌≢◌, ◌⊎◌, ℕ, ◌≤◌, Bool, IsTrue, List, ◌∷◌, ◌++◌, map, length, take, drop, pos}
use Rattle.std.specs.Borrow.{Bor}
use Rattle.std.specs.List.{flat_map}
use Rattle.std.specs.List.Sorted.{IsSorted}
use Rattle.std.specs.declared.cmp.Ordering.{Ordering}
use Rattle.scattering.specs.Collections.{In, Every}
use Rattle.scattering.specs.Series.{Exp, det}
use Rattle.scattering.specs.Plane.{Point, IsPoint, IsNear, FromOn, Beyond, point_before}
use Rattle.scattering.specs.Wall.{Wall, is_on}
use Rattle.plane_geom.specs.declared.Point.{Point as CodePoint}
use Rattle.plane_geom.specs.Shown.{point_of, position_order}
use Rattle.scatter_diagram.specs.Listed.{AreOfOrder}
use Rattle.scatter_diagram.specs.Shown.{walls_of}
use Rattle.scatter_diagram.specs.declared.wall.Wall.{Wall as CodeWall}
use Rattle.bend_finder.specs.Crossings.{MeetsAcross, AreFoundAhead, AddsFound}
use Rattle.bend_finder.specs.Runs.{IsOneLine, IsRunOf, AreAllLive, OnSome}
use Rattle.bend_finder.specs.KeptRuns.{AreKeptRuns}
use Rattle.bend_finder.specs.declared.marks.Mark.{Mark}
use Rattle.bend_finder.specs.declared.kept_runs.KeptRuns.{KeptRuns}

abbrev pub marked : List Mark → List CodePoint
marked ms = map (λ m. m.at) ms

abbrev pub mark_walls : Mark → List Wall
mark_walls m = walls_of m.walls.now

pub record IsMark (ls : List Wall) (m : Mark) : Type 0 where
  pub run : IsRunOf ls (mark_walls m)
  pub on : OnSome (mark_walls m) (point_of m.at)

abbrev pub IsMarkedAt : List Mark → Point → Wall → Type 0
IsMarkedAt ms q w = (m : Mark) × In m ms × (point_of m.at ≡ q) × In w (mark_walls m)

abbrev pub mark_order : Mark → Mark → Ordering
mark_order m n = position_order m.at n.at

-- ---- walls along one line

-- p + s·e for some s of at least 0 is on the wall, which isn't parallel to e
abbrev pub MeetsFrom : Point → Exp → Wall → Type 0
MeetsFrom p e w = (q : Point) × IsPoint q × FromOn p e q × IsTrue (is_on w q) × (det w.dir e ≢ pos 0)

abbrev pub MeetsSomeFrom : List Wall → Point → Exp → Type 0
MeetsSomeFrom g p e = (w : Wall) × In w g × MeetsFrom p e w

-- one of the walls is parallel to the stretch and on a point of it
abbrev pub HasParallelAhead : List Wall → Point → Exp → Type 0
HasParallelAhead g p e = (w : Wall) × (q : Point) × In w g × IsPoint q × Beyond p e q × IsTrue (is_on w q) × (det w.dir e ≡ pos 0)

-- the marks `new` are the marks `old` and marks with the walls g
pub record KeepsMarks (ls g : List Wall) (old new : List Mark) : Type 0 where
  pub keeps : (m : Mark) → In m old → In m new
  pub each : IsRunOf ls g → Every (IsMark ls) old → Every (IsMark ls) new

-- and these are all where the stretch crosses g
pub record AddsMarks (ls g : List Wall) (p : Point) (e : Exp) (old new : List Mark) (told : Bool) : Type 0 where
  pub found : AddsFound g p e (marked old) (marked new) told
  pub more : KeepsMarks ls g old new
  pub all : (w : Wall) (q : Point) → In w g → IsNear q → MeetsAcross p e w q → IsMarkedAt new q w

-- ---- all of them

-- the walls of runs along the stretch
abbrev pub Run : Type 0
Run = Bor (List CodeWall)

abbrev pub all_along : List Run → List Wall
all_along rs = flat_map (λ a. walls_of a.now) rs

-- a wall of g on a near point of the stretch is along it or stands with a mark there
abbrev pub AreAllMarked : List Wall → Point → Exp → List Run → List Mark → Type 0
AreAllMarked g p e rs ms =
    (w : Wall) (q : Point) → In w g → IsPoint q → IsNear q → Beyond p e q → IsTrue (is_on w q) → In w (all_along rs) ⊎ IsMarkedAt ms q w

pub record AreMarks (ls g : List Wall) (p : Point) (e : Exp) (rs : List Run) (ms : List Mark) (told : Bool) : Type 0 where
  pub found : AreFoundAhead g p e (marked ms) told
  pub each : Every (IsMark ls) ms
  pub along : Every (λ a. IsRunOf ls (walls_of a.now)) rs
  pub all : AreAllMarked g p e rs ms

pub record AreMarksOf (ls : List Wall) (p : Point) (e : Exp) (rs : List Run) (ms : List Mark) (told : Bool) : Type 0 where
  pub marks : AreMarks ls ls p e rs ms told
  pub sorted : IsSorted mark_order ms

-- the functions of their walls are of order n
abbrev pub AreMarksOfOrder : ℕ → List Mark → Type 0
AreMarksOfOrder n ms = Every (λ m. AreOfOrder n m.walls.now) ms

pub record AreOfOrderAhead (n : ℕ) (rs : List Run) (ms : List Mark) : Type 0 where
  pub along : Every (λ a. AreOfOrder n a.now) rs
  pub marks : AreMarksOfOrder n ms

abbrev pub KeepsOrder : ℕ → List Mark → List Mark → Type 0
KeepsOrder n old new = AreMarksOfOrder n old → AreMarksOfOrder n new

-- ---- those at one point

abbrev pub all_marked : List Mark → List Wall
all_marked ms = flat_map mark_walls ms

pub record AreLinesAhead (rs : List Run) (ms : List Mark) : Type 0 where
  pub along : Every (λ a. IsOneLine (walls_of a.now)) rs
  pub marks : Every (λ m. IsOneLine (mark_walls m)) ms

pub record AreRunsAhead (ls : List Wall) (rs : List Run) (ms : List Mark) : Type 0 where
  pub along : Every (λ a. IsRunOf ls (walls_of a.now)) rs
  pub marks : Every (λ m. IsRunOf ls (mark_walls m)) ms

-- all live walls on q are along the stretch or stand with one of the marks
pub record IsSpot (ls : List Wall) (q : Point) (rs : List Run) (ms : List Mark) : Type 0 where
  pub live : AreAllLive ls
  pub runs : AreRunsAhead ls rs ms
  pub all : (w : Wall) → In w ls → IsTrue (is_on w q) → In w (all_along rs ++ all_marked ms)

-- the first of the marks is at another point
abbrev pub StartsElsewhere : Point → List Mark → Type 0
StartsElsewhere q ms = (m : Mark) (rest : List Mark) → ms ≡ m ∷ rest → point_of m.at ≢ q

pub record IsCountAt (ms : List Mark) (q : Point) (n : ℕ) : Type 0 where
  pub within : n ≤ length ms
  pub same : Every (λ m. point_of m.at ≡ q) (take n ms)
  pub other : StartsElsewhere q (drop n ms)

-- the points come before that of the first of the marks
abbrev pub AreBeforeFirst : List Point → List Mark → Type 0
AreBeforeFirst qs ms = (m : Mark) (rest : List Mark) → ms ≡ m ∷ rest → Every (λ q. IsTrue (point_before q (point_of m.at))) qs

-- n marks, one at least, are all at the point of the first
abbrev pub IsFirstCount : List Mark → ℕ → Type 0
IsFirstCount ms n = (1 ≤ n) × ((m : Mark) (rest : List Mark) → ms ≡ m ∷ rest → IsCountAt ms (point_of m.at) n)

-- all live walls on the point of the first are along the stretch or stand with a mark there
abbrev pub IsFirstSpot : List Wall → List Run → List Mark → Type 0
IsFirstSpot ls rs ms = (n : ℕ) (m : Mark) (rest : List Mark) → ms ≡ m ∷ rest → IsCountAt ms (point_of m.at) n → IsSpot ls (point_of m.at) rs (take n ms)

-- ---- what turns are found from

-- the marks of a stretch, and powers of the walls' functions that are kept
pub record AreReadyMarks (ls : List Wall) (k : KeptRuns) (rs : List Run) (ms : List Mark) : Type 0 where
  pub live : AreAllLive ls
  pub kept : AreKeptRuns ls k
  pub marks : (p : Point) × (e : Exp) × (told : Bool) × AreMarksOf ls p e rs ms told
