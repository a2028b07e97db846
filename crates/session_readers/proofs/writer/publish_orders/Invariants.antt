use Rattle.std.proofs.Common.{◌≡◌}
use Rattle.order_epochs.specs.Seen.{epoch_of}
use Rattle.scatter_step.proofs.Outcomes.{IsReached}
use Rattle.session_readers.proofs.writer.publish_orders.Given as goal

abbrev pub invariant-loop : goal.invariant-loop
invariant-loop g l = record {
  store : l.epochs ≡ epoch_of l.last;
  reached : IsReached l.fn.first.initial l.counter l.last;
}
