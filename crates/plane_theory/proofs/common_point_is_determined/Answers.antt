use Rattle.plane_theory.proofs.common_point_is_determined.Goals as goal
use Rattle.plane_theory.proofs.StatedLaws.{common_point_exists, common_point_is_unique}

pub returns : goal.returns
returns c = record { exists = common_point_exists; unique = common_point_is_unique }
