-- The answers to the asks of a file.
--     IsAnswerTo k e ask a          a answers the ask in the diagram e, which is completed to order k
--     IsAskedText                   the text of answers to all asks, in their order
use Rattle.std.specs.Prelude.{ℕ, List, Option}
use Rattle.std.specs.List.{AllZip}
use Rattle.scattering.specs.Wall.{Diagram, walls}
use Rattle.scattering.specs.Stops.{StopCause}
use Rattle.theta_algebra.specs.declared.query.Query.{Query}
use Rattle.theta_algebra.specs.declared.query.Answer.{Answer}
use Rattle.theta_algebra.specs.Answering.{IsAnswer}
use Rattle.scatter_text.specs.declared.file.AskRow.{AskRow}
use Rattle.scatter_text.specs.GivenQueries.{IsReadersQueryOf}
use Rattle.scatter_text.specs.AnswersText.{IsAnswersText}

pub record IsAnswerTo (k : ℕ) (e : Diagram) (ask : AskRow) (a : Answer) : Type 0 where
  pub query : ℕ × Query
  pub asked : IsReadersQueryOf ask query
  pub answer : IsAnswer (walls e) k query.1 a

pub record IsAskedText (asks : List AskRow) (vars order : ℕ) (e : Diagram) (stop : Option (ℕ × StopCause)) (text : List ℕ) : Type 0 where
  pub answers : List Answer
  pub each : AllZip (IsAnswerTo order e) asks answers
  pub printed : IsAnswersText vars order stop answers text
