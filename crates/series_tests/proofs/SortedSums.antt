-- The test of sorted sums says what it should.
use Rattle.std.proofs.Common.{◌≡◌, ◌≢◌, ℕ, ◌≤◌, ◌^◌, true}
use Rattle.std.specs.Prelude.{pos, nat_abs, nat_lt, not, IsTrue}
use Rattle.scattering.specs.Collections.{Every}
use Rattle.scattering.specs.Series.{Term, Sum, int_eq, degree, IsSeries}
use Rattle.scattering.proofs.DistinctKeys.{HasDistinctKeys, rising-distinct}
use Rattle.scattering.proofs.Lists.{and-left, and-right, all-every, Every-implies}
use Rattle.scattering.proofs.Tests.{nat_le-yes}
use Rattle.trunc_series.specs.Shown.{IsTerm}
use Rattle.sample_walls.specs.LowFunctions.{are_rising}
use Rattle.sample_walls.proofs.LowFunctions.{rising, nonzero, below}
use Rattle.series_tests.specs.SortedSums.{is_sorted_term, is_sorted_sum}

sorted-term : (n : ℕ) (t : Term) → is_sorted_term n t ≡ true → IsTerm n t
sorted-term n t h =
    let a = and-right (not (int_eq t.1 (pos 0))) _ h in
    (nonzero t.1 (and-left (not (int_eq t.1 (pos 0))) _ h), below _ _ (and-left (nat_lt (nat_abs t.1) (2 ^ 127)) _ a), nat_le-yes _ _ (and-right (nat_lt (nat_abs t.1) (2 ^ 127)) _ a))

pub sorted-terms : (n : ℕ) (f : Sum) → IsTrue (is_sorted_sum n f) → Every (IsTerm n) f
sorted-terms n f h = all-every (is_sorted_term n) (IsTerm n) f (sorted-term n) (and-right (are_rising f) _ h)

pub sorted-distinct : (n : ℕ) (f : Sum) → IsTrue (is_sorted_sum n f) → HasDistinctKeys f
sorted-distinct n f h = rising-distinct f (rising f (and-left (are_rising f) _ h))

pub sorted-series : (n : ℕ) (f : Sum) → IsTrue (is_sorted_sum n f) → IsSeries n f
sorted-series n f h = record {
  rises = rising f (and-left (are_rising f) _ h);
  nonzero = Every-implies (IsTerm n) (λ (t : Term). t.1 ≢ pos 0) f (λ t l. l.0) (sorted-terms n f h);
  low = Every-implies (IsTerm n) (λ (t : Term). degree t.0 ≤ n) f (λ t l. l.2) (sorted-terms n f h);
}
