use Rattle.std.proofs.Common.{refl, ap}
use Rattle.plane_geom.specs.Shown.{point_of, vector_of}
use Rattle.scatter_diagram.specs.Kinds.{kind_of}
use Rattle.scatter_diagram.specs.Shown.{wall_of}
use Rattle.scatter_diagram.proofs.Places.{ray-support}
use Rattle.scatter_diagram.proofs.wall.Wall.support.Goals as goal

pub returns-in-Outgoing-clause-points : goal.returns-in-Outgoing-clause-points
returns-in-Outgoing-clause-points c = λ p i.
    ray-support (wall_of c.args.self.now) (point_of c.args.self.now.at) (vector_of c.opposite.result) p (ap kind_of c.in-Outgoing.is) refl c.opposite.ensures
