use Rattle.std.proofs.Common.{◌≡◌, ◌-◌, ◌≤◌, drop}
use Rattle.limits.specs.Limits.{most_tails}
use Rattle.broken_lines.specs.Tracing.{seen_tracing, pushed, roots}
use Rattle.broken_lines.proofs.tracer.Tracing.push_roots.Given as goal

abbrev pub invariant-loop-i : goal.invariant-loop-i
invariant-loop-i l = record {
  pushed : seen_tracing l.self ≡ pushed (roots l.ask (drop (l.count - l.i) l.reached)) (seen_tracing l.initial.self);
  few : l.initial.self.found ≤ most_tails → l.self.found ≤ most_tails;
}
