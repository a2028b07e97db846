use Rattle.plane_geom.specs.Shown.{vector_of}
use Rattle.local_product.proofs.WallFunctions.{bound-function, bound-near}
use Rattle.local_product.proofs.majorants.bounding.Goals as goal

pub new-requires-clause-wall : goal.new-requires-clause-wall
new-requires-clause-wall c = (vector_of c.args.h.now.wall.now.dir, bound-function c.args.h.now.wall.now c.in_ok-bound.bound c.in_ok-bound.ensures.series)

pub new-requires-clause-near : goal.new-requires-clause-near
new-requires-clause-near c = bound-near c.args.h.now.wall.now c.in_ok-bound.bound c.in_ok-bound.ensures.series c.in_ok-bound.ensures.order
