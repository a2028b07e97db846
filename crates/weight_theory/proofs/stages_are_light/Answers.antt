use Rattle.weight_theory.proofs.stages_are_light.Goals as goal
use Rattle.weight_theory.proofs.Stages.{stage-is-light, majorant-stages-are-light}

pub returns : goal.returns
returns c = record { stage = stage-is-light; stages = majorant-stages-are-light }
