use Rattle.std.proofs.Common.{arith}
use Rattle.weight_bounds.proofs.Rows.{zeros}
use Rattle.weight_bounds.proofs.reach.Reach.new.Goals as goal

pub invariant_of-result : goal.invariant_of-result
invariant_of-result c = (c.requires, λ i. let z = zeros 25 i in omega (arith, z))
