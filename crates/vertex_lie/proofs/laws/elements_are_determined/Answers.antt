use Rattle.vertex_lie.proofs.StatedLaws.{element-determined}
use Rattle.vertex_lie.proofs.laws.elements_are_determined.Goals as goal

pub returns : goal.returns
returns c = element-determined
