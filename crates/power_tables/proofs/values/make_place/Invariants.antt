use Rattle.std.proofs.Common.{◌+◌, ◌-◌, length, List}
use Rattle.trunc_series.specs.declared.arithmetic.Arithmetic.{Arithmetic}
use Rattle.power_tables.specs.declared.table.Part.{Part}
use Rattle.power_tables.specs.Entries.{AreEntries}
use Rattle.power_tables.proofs.values.make_place.Given as goal

abbrev pub invariant-grow : goal.invariant-grow
invariant-grow l = (rule : Arithmetic) (parts : List Part) → AreEntries rule parts l.fn.entries.items → AreEntries rule parts l.entries.items

abbrev pub decreases-grow : goal.decreases-grow
decreases-grow l = l.place + 1 - length l.entries.items
