use Rattle.scattering.specs.Wall.{IsWall}
use Rattle.scattering.proofs.Lists.{Every-right}
use Rattle.scatter_diagram.specs.Stored.{stored_diagram}
use Rattle.scatter_diagram.proofs.Walls.{are-walls}
use Rattle.scatter_diagram.proofs.Stored.{Every-stored}
use Rattle.scatter_diagram.proofs.diagram.Diagram.ray_count.Goals as goal

pub returns-clause-rays : goal.returns-clause-rays
returns-clause-rays c =
    let e = c.self.inside in
    let d = stored_diagram e.line_count e.walls.items e.positions.items in
    rw (← c.self.view_is) (record {
      proper = Every-right (IsWall e.order) d.initial d.rays (Every-stored (IsWall e.order) e.line_count e.walls.items e.positions.items (are-walls e.order e.walls.items c.self.invariant.functions) c.self.invariant.within);
      outgoing = c.self.invariant.outgoing;
      reduced = c.self.invariant.reduced;
    })
