use Rattle.std.proofs.Common.{◌≡◌, length, take}
use Rattle.scattering.specs.ThetaProduct.{of_degree}
use Rattle.trunc_series.specs.Shown.{sum_of}
use Rattle.power_tables.specs.Tables.{column_sum}
use Rattle.power_tables.proofs.making.linear_part.Given as goal

abbrev pub invariant-loop-i : goal.invariant-loop-i
invariant-loop-i l = record {
  terms : column_sum l.keys.items l.first.items ≡ of_degree l.degree (sum_of (take l.i l.u));
  lengths : length l.keys.items ≡ length l.first.items;
}
