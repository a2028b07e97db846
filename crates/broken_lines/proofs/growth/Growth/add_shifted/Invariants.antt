use Rattle.std.proofs.Common.{take}
use Rattle.broken_lines.specs.Growth.{Gains, IsShifted}
use Rattle.broken_lines.proofs.growth.Growth.add_shifted.Given as goal

abbrev pub invariant-loop-x : goal.invariant-loop-x
invariant-loop-x l = Gains (IsShifted l.step (take l.x-index l.from)) l.initial.self l.self
