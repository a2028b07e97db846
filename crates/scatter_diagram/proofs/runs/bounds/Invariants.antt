use Rattle.std.proofs.Common.{◌≡◌, take}
use Rattle.crossing_theory.proofs.Runs.{starts}
use Rattle.scatter_diagram.proofs.Lines.{share_line}
use Rattle.scatter_diagram.proofs.runs.bounds.Given as goal

abbrev pub invariant-loop-i : goal.invariant-loop-i
invariant-loop-i l = l.bounds.items ≡ starts share_line (take l.i l.walls)
