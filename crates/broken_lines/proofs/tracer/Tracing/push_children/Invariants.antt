use Rattle.std.proofs.Common.{◌≡◌, ◌-◌, ◌≤◌, drop}
use Rattle.limits.specs.Limits.{most_tails}
use Rattle.bend_finder.specs.Ahead.{bends_of}
use Rattle.broken_lines.specs.Tracing.{seen_node, seen_tracing, pushed, children}
use Rattle.broken_lines.proofs.tracer.Tracing.push_children.Given as goal

abbrev pub invariant-loop-i : goal.invariant-loop-i
invariant-loop-i l = record {
  pushed : seen_tracing l.self ≡ pushed (children l.ask (seen_node l.node) (bends_of (drop (l.count - l.i) l.bends))) (seen_tracing l.initial.self);
  few : l.initial.self.found ≤ most_tails → l.self.found ≤ most_tails;
}
