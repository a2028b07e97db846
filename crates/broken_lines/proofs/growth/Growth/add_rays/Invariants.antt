use Rattle.std.proofs.Common.{take}
use Rattle.broken_lines.specs.Growth.{Gains, AddsSteps, IsTermOfSome}
use Rattle.broken_lines.proofs.growth.Growth.add_rays.Given as goal

abbrev pub invariant-loop-i : goal.invariant-loop-i
invariant-loop-i l = record {
  gains : Gains (IsTermOfSome l.initial.self.degree (take l.i l.e.diagram.rays)) l.initial.self l.self;
  steps : AddsSteps (IsTermOfSome l.initial.self.degree (take l.i l.e.diagram.rays)) l.initial.self l.self l.initial.steps.items l.steps.items;
}
