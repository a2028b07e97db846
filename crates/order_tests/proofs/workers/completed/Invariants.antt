use Rattle.std.proofs.Common.{◌≡◌}
use Rattle.order_tests.proofs.workers.completed.Given as goal

abbrev pub invariant-loop : goal.invariant-loop
invariant-loop g l = l.last.order ≡ l.counter
