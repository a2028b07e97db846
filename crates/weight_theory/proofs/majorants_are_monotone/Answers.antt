use Rattle.weight_theory.proofs.majorants_are_monotone.Goals as goal
use Rattle.weight_theory.proofs.Crossings.{majorant-is-monotone, majorant-stays-nonnegative}
use Rattle.weight_theory.proofs.Masses.{majorant-mass-is-monotone}

pub returns : goal.returns
returns c = record { monotone = majorant-is-monotone; masses = majorant-mass-is-monotone; nonnegative = majorant-stays-nonnegative }
