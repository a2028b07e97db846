use Rattle.std.proofs.Common.{◌≡◌, take}
use Rattle.power_tables.proofs.ScaledColumns.{added}
use Rattle.power_tables.proofs.scaling.add_short.Given as goal

abbrev pub invariant-loop-i : goal.invariant-loop-i
invariant-loop-i l = l.values.items ≡ added l.rule l.c l.fn.values.items (take l.i l.column)
