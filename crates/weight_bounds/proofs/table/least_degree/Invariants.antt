use Rattle.std.proofs.Common.{◌≤◌, ◌<◌, ℕ, slice_index_or}
use Rattle.std.specs.Prelude.{ℤ}
use Rattle.scattering.specs.Series.{degree}
use Rattle.trunc_series.specs.declared.key.Key.{Key as CodeKey}
use Rattle.trunc_series.specs.Shown.{key_of}
use Rattle.weight_bounds.proofs.table.least_degree.Given as goal

abbrev pub invariant-loop-t : goal.invariant-loop-t
invariant-loop-t l = record {
  positive : 1 ≤ l.least;
  least : (j : ℕ) (d : CodeKey × ℤ) → j < l.t-index → 1 ≤ degree (key_of (slice_index_or l.terms j d).0) → l.least ≤ degree (key_of (slice_index_or l.terms j d).0);
}
