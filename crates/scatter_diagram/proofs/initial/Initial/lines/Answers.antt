use Rattle.scatter_diagram.proofs.Walls.{are-walls}
use Rattle.scatter_diagram.proofs.initial.Initial.lines.Goals as goal

pub returns-clause-proper : goal.returns-clause-proper
returns-clause-proper c = rw (← c.self.view_is) (are-walls 24 c.self.inside.lines.items c.self.invariant.lines.order)
