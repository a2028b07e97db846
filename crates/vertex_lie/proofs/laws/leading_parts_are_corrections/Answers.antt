use Rattle.vertex_lie.proofs.StatedLaws.{leading-correction}
use Rattle.vertex_lie.proofs.laws.leading_parts_are_corrections.Goals as goal

pub returns : goal.returns
returns c = leading-correction
