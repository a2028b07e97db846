use Rattle.std.proofs.Common.{◌≡◌, ◌-◌, ◌≤◌, length}
use Rattle.limits.specs.Limits.{most_tails}
use Rattle.broken_lines.specs.Tracing.{seen_tracing, AreTraced}
use Rattle.broken_lines.proofs.tracer.Tracing.run.Given as goal

abbrev pub invariant-loop-node : goal.invariant-loop-node
invariant-loop-node l = record {
  same : l.finder ≡ l.initial.finder;
  few : l.self.found ≤ most_tails;
  traces : AreTraced l.initial.finder.walls l.ask (seen_tracing l.self);
}

abbrev pub decreases-loop-node : goal.decreases-loop-node
decreases-loop-node l = most_tails - length l.self.tails.items
