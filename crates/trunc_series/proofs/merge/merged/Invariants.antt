use Rattle.std.proofs.Common.{length, ◌≡◌, ◌+◌, ◌++◌}
use Rattle.scattering.specs.Collections.{Every}
use Rattle.trunc_series.specs.Shown.{sum_of}
use Rattle.trunc_series.specs.Arithmetic.{IsKeepable}
use Rattle.trunc_series.proofs.Merging.{merge}
use Rattle.trunc_series.proofs.merge.merged.Given as goal

abbrev pub invariant-loop-x : goal.invariant-loop-x
invariant-loop-x l = record {
  done : sum_of l.out.items ++ merge l.rule (sum_of l.rests.first.now) (sum_of l.rests.second.now) ≡ merge l.rule (sum_of l.a) (sum_of l.b);
  left : Every (λ t. IsKeepable l.rule t.1) (sum_of l.rests.first.now);
  right : Every (λ t. IsKeepable l.rule t.1) (sum_of l.rests.second.now);
}

abbrev pub decreases-loop-x : goal.decreases-loop-x
decreases-loop-x l = length l.rests.first.now + length l.rests.second.now
