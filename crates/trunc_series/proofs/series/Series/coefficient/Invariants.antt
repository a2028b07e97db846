use Rattle.std.proofs.Common.{◌-◌, ◌≡◌, ◌≤◌, length, take, drop}
use Rattle.std.specs.Prelude.{pos}
use Rattle.scattering.specs.Series.{coef}
use Rattle.trunc_series.specs.Shown.{key_of, sum_of}
use Rattle.trunc_series.proofs.series.Series.coefficient.Given as goal

abbrev pub invariant-search : goal.invariant-search
invariant-search l = record {
  in_order : l.low ≤ l.high;
  in_range : l.high ≤ length l.terms;
  before : coef (sum_of (take l.low l.terms)) (key_of l.key) ≡ pos 0;
  after : coef (sum_of (drop l.high l.terms)) (key_of l.key) ≡ pos 0;
}

abbrev pub decreases-search : goal.decreases-search
decreases-search l = l.high - l.low
