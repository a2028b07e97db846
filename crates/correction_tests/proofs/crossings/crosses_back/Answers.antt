use Rattle.correction_tests.proofs.CrossedWalls.{line-wall}
use Rattle.correction_tests.proofs.crossings.crosses_back.Goals as goal

pub cross-requires-clause-wall : goal.cross-requires-clause-wall
cross-requires-clause-wall c = rw (c.in_ok-g.ensures.order, c.in_ok-dir.ensures, c.in_ok-f.ensures.terms) line-wall
