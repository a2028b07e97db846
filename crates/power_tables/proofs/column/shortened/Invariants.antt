use Rattle.std.proofs.Common.{◌≡◌, take}
use Rattle.power_tables.proofs.column.shortened.Given as goal

abbrev pub invariant-loop-i : goal.invariant-loop-i
invariant-loop-i l = l.short.items ≡ take l.i l.numbers
