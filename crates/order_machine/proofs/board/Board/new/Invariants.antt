use Rattle.std.proofs.Common.{◌≡◌, replicate}
use Rattle.order_machine.specs.Moves.{idle}
use Rattle.order_machine.proofs.board.Board.new.Given as goal

abbrev pub invariant-loop : goal.invariant-loop
invariant-loop l = l.idle.items ≡ replicate l.counter idle
