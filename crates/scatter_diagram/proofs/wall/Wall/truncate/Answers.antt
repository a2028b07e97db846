use Rattle.plane_geom.specs.Shown.{point_of, vector_of}
use Rattle.scatter_diagram.specs.Kinds.{kind_of}
use Rattle.scatter_diagram.proofs.Walls.{function-cut}
use Rattle.scatter_diagram.proofs.wall.Wall.truncate.Goals as goal

pub invariant_of-result : goal.invariant_of-result
invariant_of-result c = record { proper = (function-cut c.args.self.now c.args.order c.in_ok-truncate.field-0 c.requires c.in_ok-truncate.ensures).0 }

pub returns-clause-wall : goal.returns-clause-wall
returns-clause-wall c = let e = (function-cut c.args.self.now c.args.order c.in_ok-truncate.field-0 c.requires c.in_ok-truncate.ensures).1 in
    λ i. record { kind = kind_of c.args.self.now.kind; at = point_of c.args.self.now.at; dir = vector_of c.args.self.now.dir; function = e i }
