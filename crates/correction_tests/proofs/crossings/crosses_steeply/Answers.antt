use Rattle.plane_geom.specs.Shown.{vector_of}
use Rattle.correction_tests.proofs.CrossedWalls.{steep-wall, steep-mass}
use Rattle.correction_tests.proofs.crossings.crosses_steeply.Goals as goal

pub cross-requires-clause-wall : goal.cross-requires-clause-wall
cross-requires-clause-wall c = rw (c.in_ok-y.ensures.order, c.in_ok-dir.ensures, c.in_ok-f.ensures.terms) steep-wall

pub cross-requires-clause-mass : goal.cross-requires-clause-mass
cross-requires-clause-mass c = steep-mass c.in_ok-y.y.order (vector_of c.in_ok-dir.dir) c.in_ok-f.f.terms c.in_ok-y.y.terms c.in_ok-y.ensures.order c.in_ok-dir.ensures c.in_ok-f.ensures.terms c.in_ok-y.ensures.terms
