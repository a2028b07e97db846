-- The lines so far.
use Rattle.std.proofs.Common.{take}
use Rattle.scatter_text.proofs.InitialLines.{AreSaid}
use Rattle.scatter_text.proofs.initial.initial_of.Given as goal

abbrev pub invariant-loop-row : goal.invariant-loop-row
invariant-loop-row l = AreSaid (take l.row-index l.rows) l.lines.items
