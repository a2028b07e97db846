use Rattle.std.proofs.Common.{◌≡◌, ◌+◌, length}
use Rattle.power_tables.specs.Made.{AreListed}
use Rattle.power_tables.proofs.making.parts_of.Given as goal

abbrev pub invariant-loop-degree : goal.invariant-loop-degree
invariant-loop-degree l = record {
  parts : AreListed l.rule l.powers l.least l.least l.parts.items;
  count : l.least + length l.parts.items ≡ l.degree;
}
