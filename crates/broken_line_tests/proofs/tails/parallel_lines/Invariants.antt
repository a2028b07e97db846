use Rattle.limits.specs.Limits.{highest_order}
use Rattle.scatter_diagram.specs.Listed.{AreLines}
use Rattle.broken_line_tests.proofs.tails.parallel_lines.Given as goal

abbrev pub invariant-loop-i : goal.invariant-loop-i
invariant-loop-i l = AreLines highest_order l.lines.items
