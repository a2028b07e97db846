use Rattle.std.proofs.Common.{◌≡◌, ◌≤◌, ◌∷◌, ◌-◌, replicate}
use Rattle.std.specs.Prelude.{pos}
use Rattle.power_tables.proofs.rows.first_row.Given as goal

abbrev pub invariant-loop : goal.invariant-loop
invariant-loop l = record {
  started : 1 ≤ l.counter;
  items : l.out.items ≡ pos 1 ∷ replicate (l.counter - 1) (pos 0);
}
