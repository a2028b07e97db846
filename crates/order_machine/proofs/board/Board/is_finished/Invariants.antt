use Rattle.std.proofs.Common.{◌≡◌, ◌+◌, true, length, take}
use Rattle.std.specs.List.{list_all, sum_by}
use Rattle.order_machine.proofs.board.Board.is_finished.Given as goal

abbrev pub invariant-loop-worker : goal.invariant-loop-worker
invariant-loop-worker l = record {
  done : list_all (λ w. w.done) (take l.worker-index l.self.workers) ≡ true;
  left : l.left + sum_by (λ w. length w.finished) (take l.worker-index l.self.workers) ≡ l.self.tasks;
}
