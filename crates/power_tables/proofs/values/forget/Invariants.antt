use Rattle.std.proofs.Common.{◌≡◌, length, take}
use Rattle.scattering.specs.Collections.{Every}
use Rattle.power_tables.proofs.values.forget.Given as goal

abbrev pub invariant-loop-i : goal.invariant-loop-i
invariant-loop-i l = record {
  size : length l.entries.items ≡ length l.fn.entries.items;
  none : Every (λ e. e.filled ≡ 0) (take l.i l.entries.items);
}
