use Rattle.correction_tests.specs.CrossedSums.{east}
use Rattle.correction_tests.proofs.CrossedWalls.{line-wall}
use Rattle.correction_tests.proofs.powers.has_power.Goals as goal

pub new-requires-clause-wall : goal.new-requires-clause-wall
new-requires-clause-wall c = (east, rw (c.in_ok-f.ensures.order, c.in_ok-f.ensures.terms) line-wall)
