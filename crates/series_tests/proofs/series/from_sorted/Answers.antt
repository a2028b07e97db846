use Rattle.std.proofs.Common.{refl, arith}
use Rattle.std.specs.Prelude.{pos}
use Rattle.trunc_series.specs.Shown.{IsValid}
use Rattle.trunc_series.specs.Worked.{line_terms}
use Rattle.trunc_series.proofs.Unique.{line-series}
use Rattle.series_tests.proofs.series.from_sorted.Goals as goal

valid : IsValid 2 (line_terms (pos 1))
valid = record { order = omega arith; series = line-series (pos 1) refl; small = (omega arith, (omega arith, tt)) }

pub from_sorted-s-requires : goal.from_sorted-s-requires
from_sorted-s-requires c = rw c.in_ok-terms.ensures valid
