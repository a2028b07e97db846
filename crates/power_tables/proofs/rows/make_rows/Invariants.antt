use Rattle.std.proofs.Common.{◌+◌, ◌-◌, ◌≤◌, length}
use Rattle.power_tables.specs.Rows.{AreBinomialRows}
use Rattle.power_tables.proofs.rows.make_rows.Given as goal

abbrev pub invariant-grow : goal.invariant-grow
invariant-grow l = record {
  rows : AreBinomialRows l.family 0 l.rows.items;
  some : 1 ≤ length l.rows.items;
}

abbrev pub decreases-grow : goal.decreases-grow
decreases-grow l = l.m + 1 - length l.rows.items
