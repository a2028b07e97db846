use Rattle.correction_tests.proofs.CrossedWalls.{line-wall}
use Rattle.correction_tests.proofs.crossings.bounds.Goals as goal

pub cross_majorant-requires-clause-wall : goal.cross_majorant-requires-clause-wall
cross_majorant-requires-clause-wall c = rw (c.in_ok-g.ensures.order, c.in_ok-dir.ensures, c.in_ok-f.ensures.terms) line-wall
