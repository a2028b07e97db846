use Rattle.std.proofs.Common.{◌≡◌, ◌++◌, take}
use Rattle.joint_finder.specs.Strands.{joined}
use Rattle.joint_finder.proofs.rows.add_rows.Given as goal

abbrev pub invariant-loop-row : goal.invariant-loop-row
invariant-loop-row l = l.points.items ≡ l.initial.points.items ++ joined (take l.row-index l.rows)
