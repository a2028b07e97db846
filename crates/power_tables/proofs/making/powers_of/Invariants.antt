use Rattle.std.proofs.Common.{◌≡◌, length}
use Rattle.trunc_series.specs.Shown.{sum_of}
use Rattle.power_tables.specs.Made.{IsPower, ArePowersFrom}
use Rattle.power_tables.proofs.making.powers_of.Given as goal

abbrev pub invariant-loop-i : goal.invariant-loop-i
invariant-loop-i l = record {
  each : ArePowersFrom l.rule l.order (sum_of l.u) 1 l.powers.items;
  last : IsPower l.rule l.order (sum_of l.u) l.i (sum_of l.last.items);
  count : length l.powers.items ≡ l.i;
}
