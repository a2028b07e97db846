use Rattle.std.proofs.Common.{length}
use Rattle.theta_algebra.proofs.line_values.+value_of_bends.Given as goal

abbrev pub decreases-value_of_bends : goal.decreases-value_of_bends
decreases-value_of_bends l = length l.bends.now
