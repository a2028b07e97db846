-- The lines so far.
use Rattle.std.proofs.Common.{take}
use Rattle.std.specs.Prelude.{string_bytes, codes}
use Rattle.scatter_text.proofs.PrintedWalls.{AreWritten}
use Rattle.scatter_text.proofs.printing.push_lines.Given as goal

abbrev pub invariant-loop-i : goal.invariant-loop-i
invariant-loop-i l = AreWritten (codes "line") l.vars (take l.i l.e.diagram.initial) (string_bytes l.initial.text) (string_bytes l.text)
