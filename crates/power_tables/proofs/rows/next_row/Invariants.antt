use Rattle.std.proofs.Common.{◌≡◌, ℕ, suc, length}
use Rattle.power_tables.specs.Kept.{AreKeepable}
use Rattle.power_tables.specs.Rows.{rule_of, IsBinomialRow}
use Rattle.power_tables.proofs.rows.next_row.Given as goal

abbrev pub invariant-loop-r : goal.invariant-loop-r
invariant-loop-r l = record {
  count : length l.next.items ≡ l.r;
  keepable : AreKeepable (rule_of l.family) l.next.items;
  next : (m : ℕ) → IsBinomialRow l.family m l.row → IsBinomialRow l.family (suc m) l.next.items;
}
