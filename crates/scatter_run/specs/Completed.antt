-- What jobs print of a completion.
--     IsStopOf rows k stop               stop is the first stop of these lines up to order k
--     IsLastCompletion rows k stop e     e is the completion of these lines at order k, or at the last order before the first stop
--     IsCompletedText                    what `complete`, `complete-json` and `theta` print of a file
--     IsSummary                          what `generate` prints of a number
use Rattle.std.specs.Prelude.{◌≡◌, ℕ, List, pos, Option}
use Rattle.std.specs.List.{AllZip}
use Rattle.scattering.specs.Wall.{Wall, Diagram}
use Rattle.scattering.specs.Completion.{IsCompletion}
use Rattle.scattering.specs.Stops.{StopCause, IsFirstStop, last_before}
use Rattle.scatter_text.specs.declared.file.LineRow.{LineRow}
use Rattle.scatter_text.specs.declared.file.TextFile.{TextFile}
use Rattle.scatter_text.specs.GivenWalls.{IsWallOf}
use Rattle.scatter_run.specs.Form.{IsPrintedIn}
use Rattle.scatter_run.specs.declared.form.Form.{Form}
use Rattle.scatter_run.specs.Generated.{generated_lines, generated_order, summary_text}

-- what first stops the completion of the walls that the lines stand for
pub record IsStopOf (rows : List LineRow) (order : ℕ) (stop : Option (ℕ × StopCause)) : Type 0 where
  pub given : List Wall
  pub lines : AllZip IsWallOf rows given
  pub first : IsFirstStop given order stop

-- a completion of the walls that the lines stand for: at the order that is asked, or at the last one before the first stop
pub record IsLastCompletion (rows : List LineRow) (order : ℕ) (stop : Option (ℕ × StopCause)) (e : Diagram) : Type 0 where
  pub given : List Wall
  pub lines : AllZip IsWallOf rows given
  pub first : IsFirstStop given order stop
  pub completion : IsCompletion given (last_before order stop) e

-- what is printed in this form of the last completion of the file's lines
pub record IsCompletedText (form : Form) (order : ℕ) (file : TextFile) (stop : Option (ℕ × StopCause)) (text : List ℕ) : Type 0 where
  pub vars : ℕ
  pub diagram : Diagram
  pub variables : file.vars ≡ pos vars
  pub last : IsLastCompletion file.lines order stop diagram
  pub printed : IsPrintedIn form file.asks vars (last_before order stop) diagram stop text

-- the counts of the last completion of the lines that are made from the number
pub record IsSummary (number : ℕ) (stop : Option (ℕ × StopCause)) (text : List ℕ) : Type 0 where
  pub diagram : Diagram
  pub last : IsLastCompletion (generated_lines number) generated_order stop diagram
  pub printed : text ≡ summary_text number (last_before generated_order stop) diagram.rays stop
