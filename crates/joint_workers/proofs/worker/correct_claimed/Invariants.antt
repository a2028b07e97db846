use Rattle.std.proofs.Common.{◌≡◌}
use Rattle.std.specs.Prelude.{All}
use Rattle.local_product.specs.Workspace.{IsWorkspaceOf}
use Rattle.joint_board.specs.Seen.{draws_left, numbers_of, tasks_drawn}
use Rattle.joint_workers.specs.Tasks.{IsCorrected}
use Rattle.joint_workers.proofs.worker.correct_claimed.Given as goal

abbrev pub invariant-loop-alloc : goal.invariant-loop-alloc
invariant-loop-alloc g l = record {
  board : l.seat.board ≡ l.board;
  number : l.seat.number ≡ l.fn.seat.number;
  numbers : numbers_of l.found.items ≡ tasks_drawn l.seat;
  results : All (IsCorrected l.tables.diagram l.tables.order l.points) l.found.items;
  workspace : IsWorkspaceOf l.tables.order l.workspace;
}

abbrev pub decreases-loop-alloc : goal.decreases-loop-alloc
decreases-loop-alloc g l = draws_left l.seat
