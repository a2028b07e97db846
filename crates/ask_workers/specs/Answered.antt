-- What the workers answer, by the walls ws and the order k of the diagram, and the asks.
--     AreAnswers ws k asks as     as are the answers to the asks, in their order
--     IsAnswered ws k asks r      r is the number of an ask and the answer to it
--     AreAnsweredBy ws k asks s t      t is what the worker of the seat s kept
use Rattle.std.specs.Prelude.{◌≡◌, ℕ, List, All, Some, slice_get}
use Rattle.std.specs.List.{AllZip}
use Rattle.scattering.specs.Wall.{Wall}
use Rattle.joint_board.specs.Seen.{SeenSeat, SeenKept}
use Rattle.theta_algebra.specs.declared.query.Answer.{Answer}
use Rattle.theta_algebra.specs.Answering.{Ask, IsAnswer}

abbrev pub AreAnswers : List Wall → ℕ → List Ask → List Answer → Type 0
AreAnswers ws k asks answers = AllZip (λ a x. IsAnswer ws k a.1 x) asks answers

pub record IsAnswered (ws : List Wall) (k : ℕ) (asks : List Ask) (r : ℕ × Answer) : Type 0 where
  pub ask : Ask
  pub task : slice_get asks r.0 ≡ Some ask
  pub answer : IsAnswer ws k ask.1 r.1

pub record AreAnsweredBy (ws : List Wall) (k : ℕ) (asks : List Ask) (s : SeenSeat) (t : SeenKept Answer) : Type 0 where
  pub board : t.seat.board ≡ s.board
  pub number : t.seat.number ≡ s.number
  pub results : All (IsAnswered ws k asks) t.results
