use Rattle.trunc_series.proofs.Unique.{line-majorant}
use Rattle.series_tests.proofs.majorants.from_sorted.Goals as goal

pub from_sorted-m-requires : goal.from_sorted-m-requires
from_sorted-m-requires c = rw c.in_ok-terms.ensures line-majorant
