use Rattle.std.proofs.Common.{◌≡◌}
use Rattle.joint_board.specs.Seen.{draws_left, numbers_of, tasks_drawn}
use Rattle.worker_tests.proofs.board.keep.Given as goal

abbrev pub invariant-loop-seat : goal.invariant-loop-seat
invariant-loop-seat l = record {
  board : l.seat.board ≡ l.fn.seat.board;
  number : l.seat.number ≡ l.fn.seat.number;
  numbers : numbers_of l.results.items ≡ tasks_drawn l.seat;
}

abbrev pub decreases-loop-seat : goal.decreases-loop-seat
decreases-loop-seat l = draws_left l.seat
