-- What a session prints: answers in orders that were published, which several readers found while the orders were computed.
--     IsAnswerAt given last ask a      a answers the ask in the completion of these lines at its order, which is at most the last one
--     NeverFallsBack asks answers      no answer is in a lower order than the same reader's answer to an ask before it
--     IsSessionText                    what `session` prints of a file
use Rattle.std.specs.Prelude.{◌≡◌, ℕ, ◌<◌, ◌≤◌, List, pos, Option, Some, slice_get}
use Rattle.std.specs.List.{AllZip}
use Rattle.scattering.specs.Wall.{Wall, Diagram}
use Rattle.scattering.specs.Completion.{IsCompletion}
use Rattle.scattering.specs.Stops.{StopCause, last_before}
use Rattle.theta_algebra.specs.declared.query.Answer.{Answer}
use Rattle.session_readers.specs.Session.{IsSettled}
use Rattle.scatter_text.specs.declared.file.AskRow.{AskRow}
use Rattle.scatter_text.specs.declared.file.TextFile.{TextFile}
use Rattle.scatter_text.specs.AnswersText.{IsAnswersText}
use Rattle.scatter_run.specs.Asked.{IsAnswerTo}
use Rattle.scatter_run.specs.Completed.{IsStopOf}

-- each order up to the last one is published
pub record IsAnswerAt (given : List Wall) (last : ℕ) (ask : AskRow) (a : Answer) : Type 0 where
  pub published : a.order ≤ last
  pub diagram : Diagram
  pub completion : IsCompletion given a.order diagram
  pub answer : IsAnswerTo a.order diagram ask a

abbrev pub NeverFallsBack : List AskRow → List Answer → Type 0
NeverFallsBack asks answers = (i j : ℕ) (p q : AskRow) (a b : Answer) → i < j → p.reader ≡ q.reader
    → slice_get asks i ≡ Some p → slice_get asks j ≡ Some q
    → slice_get answers i ≡ Some a → slice_get answers j ≡ Some b → a.order ≤ b.order

-- there is one answer to each ask, those after `settle` are in the last order that was published, and all are printed
pub record IsSessionText (order : ℕ) (file : TextFile) (stop : Option (ℕ × StopCause)) (text : List ℕ) : Type 0 where
  pub vars : ℕ
  pub answers : List Answer
  pub variables : file.vars ≡ pos vars
  pub stopped : IsStopOf file.lines order stop
  pub each : AllZip (IsAnswerAt stopped.given (last_before order stop)) file.asks answers
  pub rising : NeverFallsBack file.asks answers
  pub settled : IsSettled file.settle (last_before order stop) answers
  pub printed : IsAnswersText vars (last_before order stop) stop answers text
