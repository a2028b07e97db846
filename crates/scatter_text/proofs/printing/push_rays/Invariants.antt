-- The rays so far.
use Rattle.std.proofs.Common.{take}
use Rattle.std.specs.Prelude.{string_bytes, codes}
use Rattle.scatter_text.proofs.PrintedWalls.{AreWritten}
use Rattle.scatter_text.proofs.printing.push_rays.Given as goal

abbrev pub invariant-loop-i : goal.invariant-loop-i
invariant-loop-i l = AreWritten (codes "ray") l.vars (take l.i l.e.diagram.rays) (string_bytes l.initial.text) (string_bytes l.text)
