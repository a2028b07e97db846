use Rattle.weight_theory.proofs.corrections_are_light.Goals as goal
use Rattle.weight_theory.proofs.CorrectionMasses.{correction-is-light, correction-term-is-light}

pub returns : goal.returns
returns c = record { all = correction-is-light; each = correction-term-is-light }
