use Rattle.vertex_lie.proofs.Logarithms.{mass-decides}
use Rattle.vertex_lie.proofs.logarithm.is_within.Goals as goal

pub returns : goal.returns
returns c = mass-decides c.args.function.now.order c.args.function.now.terms c.in_ok-majorant.majorant c.mass.result c.in_ok-majorant.ensures c.mass.ensures
