use Rattle.std.proofs.Common.{take}
use Rattle.power_tables.specs.Made.{AreLevels}
use Rattle.power_tables.proofs.making.levels_of.Given as goal

abbrev pub invariant-loop-r : goal.invariant-loop-r
invariant-loop-r l = AreLevels l.degree (take l.r l.lists) l.levels.items
