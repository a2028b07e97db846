use Rattle.std.proofs.Common.{arith}
use Rattle.scattering.specs.Wall.{IsWall}
use Rattle.scatter_diagram.proofs.Walls.{are-walls, are-tame}
use Rattle.scatter_diagram.proofs.Stored.{Every-stored, run-count}
use Rattle.scatter_diagram.proofs.diagram.Diagram.run_count.Goals as goal

pub returns-clause-count : goal.returns-clause-count
returns-clause-count c =
    let e = c.self.inside in
    let r = run-count e.order e.line_count e.walls.items e.bounds.items e.positions.items c.self.invariant in
    rw (← c.self.view_is) (omega (arith, r, c.len.ensures))

pub returns-clause-proper : goal.returns-clause-proper
returns-clause-proper c =
    let e = c.self.inside in
    rw (← c.self.view_is) (Every-stored (IsWall e.order) e.line_count e.walls.items e.positions.items (are-walls e.order e.walls.items c.self.invariant.functions) c.self.invariant.within)

pub returns-clause-tame : goal.returns-clause-tame
returns-clause-tame c =
    let e = c.self.inside in
    rw (← c.self.view_is) (Every-stored _ e.line_count e.walls.items e.positions.items (are-tame e.walls.items) c.self.invariant.within)
