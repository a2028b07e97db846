use Rattle.scatter_diagram.proofs.Stored.{line-kind}
use Rattle.scatter_diagram.proofs.diagram.Diagram.line.Goals as goal

pub returns-clause-line : goal.returns-clause-line
returns-clause-line c =
    let e = c.self.inside in
    line-kind e.order e.line_count e.walls.items e.bounds.items e.positions.items c.self.invariant c.args.i c.index.result.now c.index-2.result.now (rw (← c.self.view_is) at c.requires) c.index.ensures c.index-2.ensures
