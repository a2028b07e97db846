use Rattle.std.proofs.Common.{◌≡◌}
use Rattle.std.specs.Prelude.{All}
use Rattle.scattering.specs.Wall.{walls}
use Rattle.joint_board.specs.Seen.{draws_left, numbers_of, tasks_drawn}
use Rattle.ask_workers.specs.Answered.{IsAnswered}
use Rattle.ask_workers.proofs.worker.answer_claimed.Given as goal

abbrev pub invariant-loop-alloc : goal.invariant-loop-alloc
invariant-loop-alloc l = record {
  board : l.seat.board ≡ l.board;
  number : l.seat.number ≡ l.fn.place.seat.number;
  numbers : numbers_of l.answers.items ≡ tasks_drawn l.seat;
  tracers : l.tracers ≡ l.e;
  results : All (IsAnswered (walls l.e.diagram) l.e.order l.asks) l.answers.items;
}

abbrev pub decreases-loop-alloc : goal.decreases-loop-alloc
decreases-loop-alloc l = draws_left l.seat
