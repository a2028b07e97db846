use Rattle.scattering.specs.Series.{pow, powers_to}
use Rattle.trunc_series.specs.Shown.{sum_of}
use Rattle.trunc_series.specs.Reduced.{IsKeptAs}
use Rattle.trunc_series.proofs.power.powers_summed.Given as goal

abbrev pub invariant-loop-i : goal.invariant-loop-i
invariant-loop-i l = record {
  power : IsKeptAs l.rule l.order (sum_of l.power.items) (pow l.order (sum_of l.g) l.i);
  total : IsKeptAs l.rule l.order (sum_of l.total.items) (powers_to l.order (sum_of l.g) l.i);
}
