use Rattle.std.proofs.Common.{◌≡◌, ◌<◌, ℕ, length, get_or}
use Rattle.trunc_series.specs.Shown.{sum_of}
use Rattle.bend_finder.specs.Bends.{told_mass}
use Rattle.bend_finder.proofs.masses.masses.Given as goal

abbrev pub invariant-loop-degree : goal.invariant-loop-degree
invariant-loop-degree l = record {
  count : length l.masses.items ≡ l.degree;
  each : (d : ℕ) → d < l.degree → get_or l.masses.items d 0 ≡ told_mass d (sum_of l.terms);
}
