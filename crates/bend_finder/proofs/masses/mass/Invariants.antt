use Rattle.std.proofs.Common.{◌≡◌, ◌≤◌, ◌+◌, ◌^◌, drop, min}
use Rattle.scattering.specs.Series.{mass_to}
use Rattle.trunc_series.specs.Shown.{sum_of}
use Rattle.bend_finder.proofs.masses.mass.Given as goal

abbrev pub invariant-loop-t : goal.invariant-loop-t
invariant-loop-t l = record {
  kept : l.mass ≤ 2 ^ 126 + 1;
  sum : min (l.mass + mass_to l.degree (sum_of (drop l.t-index l.terms))) (2 ^ 126 + 1) ≡ min (mass_to l.degree (sum_of l.terms)) (2 ^ 126 + 1);
}
