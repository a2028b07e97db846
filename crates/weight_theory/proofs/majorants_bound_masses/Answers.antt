use Rattle.weight_theory.proofs.majorants_bound_masses.Goals as goal
use Rattle.weight_theory.proofs.Masses.{mass-is-below, series-mass-is-below, coefficient-is-below, crossing-is-light, series-absolute-is-below}

pub returns : goal.returns
returns c = record { masses = mass-is-below; series = series-mass-is-below; coefficients = coefficient-is-below; crossing = crossing-is-light; absolute = series-absolute-is-below }
