use Rattle.scatter_step.proofs.Outcomes.{IsReached}
use Rattle.scatter_step.proofs.complete.complete_plain.Given as goal

abbrev pub invariant-loop : goal.invariant-loop
invariant-loop l = IsReached l.initial' l.counter l.last
