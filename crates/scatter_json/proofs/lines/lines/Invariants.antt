-- The lines so far.
use Rattle.std.proofs.Common.{take}
use Rattle.scatter_json.specs.Parts.{SayEach, IsValidLine}
use Rattle.scatter_json.proofs.lines.lines.Given as goal

abbrev pub invariant-loop-value : goal.invariant-loop-value
invariant-loop-value l = SayEach (IsValidLine l.vars) (take l.value-index l.values) l.lines.items
