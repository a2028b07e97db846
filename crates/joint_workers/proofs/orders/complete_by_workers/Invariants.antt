use Rattle.scatter_step.proofs.Outcomes.{IsReached}
use Rattle.joint_workers.proofs.orders.complete_by_workers.Given as goal

abbrev pub invariant-loop : goal.invariant-loop
invariant-loop g l = IsReached l.initial' l.counter l.last
