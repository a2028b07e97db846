use Rattle.std.proofs.Common.{take}
use Rattle.broken_lines.specs.Growth.{Gains, IsStepped}
use Rattle.broken_lines.proofs.growth.Growth.add_steps.Given as goal

abbrev pub invariant-loop-step : goal.invariant-loop-step
invariant-loop-step l = Gains (IsStepped (take l.step-index l.steps) l.levels l.initial.self.degree) l.initial.self l.self
