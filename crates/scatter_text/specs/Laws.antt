-- What is proved here of texts: that they are one.
use Rattle.std.specs.Prelude.{◌≡◌, ℕ, ℤ, List, map, Option}
use Rattle.std.specs.List.{AllZip}
use Rattle.scattering.specs.Collections.{Every}
use Rattle.scattering.specs.Wall.{Wall, IsWall, Diagram, walls}
use Rattle.scattering.specs.Stops.{StopCause}
use Rattle.scatter_text.specs.declared.file.LineRow.{LineRow}
use Rattle.scatter_text.specs.Values.{AreLineRows}
use Rattle.scatter_text.specs.DiagramText.{IsDiagramText}
use Rattle.theta_algebra.specs.declared.query.Answer.{Answer}
use Rattle.theta_algebra.specs.Laws.{plain_answer}
use Rattle.scatter_text.specs.GivenWalls.{IsWallOf}
use Rattle.scatter_text.specs.AnswersText.{IsAnswersText}

-- the lines of a file stand for one list of walls
abbrev pub WallsAreOne : Type 0
WallsAreOne = (vars : ℤ) (rows : List LineRow) (ws us : List Wall) → AreLineRows vars rows → AllZip IsWallOf rows ws → AllZip IsWallOf rows us → ws ≡ us

-- a diagram has one text
abbrev pub DiagramTextIsOne : Type 0
DiagramTextIsOne = (vars order n : ℕ) (e : Diagram) (stop : Option (ℕ × StopCause)) (text other : List ℕ) → Every (IsWall n) (walls e)
    → IsDiagramText vars order e stop text → IsDiagramText vars order e stop other → text ≡ other

-- answers have one text, and so have others that tell the same
abbrev pub AnswersTextIsOne : Type 0
AnswersTextIsOne = (vars published : ℕ) (stop : Option (ℕ × StopCause)) (answers others : List Answer) (text other : List ℕ) → map plain_answer answers ≡ map plain_answer others
    → IsAnswersText vars published stop answers text → IsAnswersText vars published stop others other → text ≡ other
