-- What a reader of published orders answers.
--     IsAnswerAmong lines q a    a answers q in the completion of these lines at its order, and there is only one
--     IsUnpinned seen a          no order was pinned: a has the order that was seen, and wants memory
--     IsReplyTo e q a            what a reader of the lines of e, which has seen the order of e, answers
use Rattle.std.specs.Prelude.{◌≡◌, ℕ, ◌⊎◌, Err}
use Rattle.scattering.specs.Wall.{Diagram, walls}
use Rattle.scattering.specs.Completion.{IsCompletion}
use Rattle.scatter_diagram.specs.Listed.{SeenInitial}
use Rattle.scatter_step.specs.Completed.{IsCompleted}
use Rattle.order_epochs.specs.Seen.{SeenEpoch}
use Rattle.broken_lines.specs.declared.fault.AskFault.TheVariants.{Memory}
use Rattle.theta_algebra.specs.declared.query.Query.{Query}
use Rattle.theta_algebra.specs.declared.query.Answer.{Answer}
use Rattle.theta_algebra.specs.Answering.{IsAnswer}

-- the diagram is no further one: each completion of the lines at the answer's order is it
pub record IsAnswerAmong (lines : SeenInitial) (q : Query) (a : Answer) : Type 0 where
  pub diagram : Diagram
  pub completed : IsCompleted (record { initial = lines; order = a.order; diagram = diagram })
  pub only : (e : Diagram) → IsCompletion lines.lines a.order e → e ≡ diagram
  pub answer : IsAnswer (walls diagram) a.order q a

abbrev pub IsUnpinned : ℕ → Answer → Type 0
IsUnpinned seen a = (a.order ≡ seen) × (a.result ≡ Err Memory)

abbrev pub IsReplyTo : SeenEpoch → Query → Answer → Type 0
IsReplyTo e q a = IsAnswerAmong e.lines q a ⊎ IsUnpinned e.order a
