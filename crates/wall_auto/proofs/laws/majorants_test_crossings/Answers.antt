use Rattle.wall_auto.proofs.Saturated.{cross-majorant-tests}
use Rattle.wall_auto.proofs.laws.majorants_test_crossings.Goals as goal

pub returns : goal.returns
returns c = cross-majorant-tests
