use Rattle.std.proofs.Common.{take}
use Rattle.order_machine.specs.Steps.{AreOfOneSize, IsRun}
use Rattle.order_machine.proofs.runs.run.Given as goal

abbrev pub invariant-loop-place : goal.invariant-loop-place
invariant-loop-place l = record {
  sizes : AreOfOneSize l.fn.state l.state;
  run : IsRun l.fn.state (take l.place l.events) l.replies.items l.state;
}
