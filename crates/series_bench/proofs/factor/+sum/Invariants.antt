use Rattle.std.proofs.Common.{◌-◌}
use Rattle.series_bench.proofs.factor.+sum.Given as goal

abbrev pub decreases-sum : goal.decreases-sum
decreases-sum l = l.to - l.from
