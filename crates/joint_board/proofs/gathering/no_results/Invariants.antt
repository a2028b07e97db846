use Rattle.std.proofs.Common.{◌≡◌, replicate, None}
use Rattle.joint_board.proofs.gathering.no_results.Given as goal

abbrev pub invariant-loop : goal.invariant-loop
invariant-loop g l = l.slots.items ≡ replicate l.counter None
