use Rattle.std.proofs.Common.{take}
use Rattle.trunc_series.specs.Shown.{sum_of}
use Rattle.broken_lines.specs.Growth.{Gains, AddsSteps, IsTermOf}
use Rattle.broken_lines.proofs.growth.Growth.add_terms.Given as goal

abbrev pub invariant-loop-t : goal.invariant-loop-t
invariant-loop-t l = record {
  gains : Gains (IsTermOf l.initial.self.degree (sum_of (take l.t-index l.terms))) l.initial.self l.self;
  steps : AddsSteps (IsTermOf l.initial.self.degree (sum_of (take l.t-index l.terms))) l.initial.self l.self l.initial.steps.items l.steps.items;
}
