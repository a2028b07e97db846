-- Live walls by supporting line.
--     IsOneLine g        the walls g are along one line
--     IsRunOf ls g       they are those of the walls ls that are along one line, as they stand in ls
--     all_walls rs       the walls of the program's runs, one run after another
--     AreLiveRunsOf ls rs    these are runs of ls that have all its walls, all of them live
--     AreOneLines rs     the walls of each run are along one line
--     OnSome g q         one of the walls is on q
--     HasLiveOn ls q g   the live walls of ls on q are those of g
--     IsPlainOn ls q g   likewise, and q isn't special among ls
use Rattle.std.specs.Prelude.{◌≡◌, true, IsTrue, IsFalse, List, Vec, pos, ◌≤ℤ◌}
use Rattle.std.specs.Global.{Global}
use Rattle.std.specs.List.{flat_map}
use Rattle.scattering.specs.Collections.{In, Every}
use Rattle.scattering.specs.Plane.{Point}
use Rattle.scattering.specs.SupportingLine.{SupportingLine, supporting_line, same_line, walls_along}
use Rattle.scattering.specs.Wall.{Wall, is_live, is_on}
use Rattle.scattering.specs.ActivePoint.{is_special}
use Rattle.scattering.specs.BrokenLine.{live_on}
use Rattle.scatter_diagram.specs.declared.wall.Wall.{Wall as CodeWall}
use Rattle.scatter_diagram.specs.Shown.{walls_of}

abbrev pub IsOneLine : List Wall → Type 0
IsOneLine g = (l : SupportingLine) × (pos 1 ≤ℤ l.under) × Every (λ w. same_line l (supporting_line w) ≡ true) g

pub record IsRunOf (ls g : List Wall) : Type 0 where
  pub line : SupportingLine
  pub proper : pos 1 ≤ℤ line.under
  pub is : g ≡ walls_along ls line

-- the program's walls along one line
abbrev pub LiveRun : Type 0
LiveRun = Vec CodeWall Global

abbrev pub all_walls : List LiveRun → List Wall
all_walls rs = flat_map (λ r. walls_of r.items) rs

abbrev pub AreAllLive : List Wall → Type 0
AreAllLive ls = (w : Wall) → In w ls → is_live w ≡ true

pub record AreLiveRunsOf (ls : List Wall) (rs : List LiveRun) : Type 0 where
  pub each : Every (λ r. IsRunOf ls (walls_of r.items)) rs
  pub all : (w : Wall) → In w ls → In w (all_walls rs)
  pub live : AreAllLive ls

abbrev pub OnSome : List Wall → Point → Type 0
OnSome g q = (w : Wall) × In w g × IsTrue (is_on w q)

abbrev pub HasLiveOn : List Wall → Point → List Wall → Type 0
HasLiveOn ls q g = live_on g q ≡ live_on ls q

abbrev pub IsPlainOn : List Wall → Point → List Wall → Type 0
IsPlainOn ls q g = IsFalse (is_special ls q) × HasLiveOn ls q g

-- the walls g are those of ls on a line that holds q, or none, and have all walls seen so far that are on q
pub record IsFoundOn (ls seen : List Wall) (q : Point) (g : List Wall) : Type 0 where
  pub some : (w : Wall) → In w g → IsRunOf ls g × OnSome g q
  pub all : (w : Wall) → In w seen → IsTrue (is_on w q) → In w g

abbrev pub AreOneLines : List LiveRun → Type 0
AreOneLines rs = Every (λ r. IsOneLine (walls_of r.items)) rs
