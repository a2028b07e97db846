use Rattle.std.proofs.Common.{◌≡◌, take}
use Rattle.order_machine.proofs.board.Board.copy.Given as goal

abbrev pub invariant-loop-worker : goal.invariant-loop-worker
invariant-loop-worker l = l.workers.items ≡ take l.worker-index l.self-inside.workers.items
