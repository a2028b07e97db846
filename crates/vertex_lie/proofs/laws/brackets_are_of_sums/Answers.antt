use Rattle.vertex_lie.proofs.ScaledBracket.{common-denominator, bracket-of_sums, bracket-antisymmetric}
use Rattle.vertex_lie.proofs.laws.brackets_are_of_sums.Goals as goal

pub returns : goal.returns
returns c = record { denominators = common-denominator; brackets = bracket-of_sums; antisymmetric = bracket-antisymmetric }
