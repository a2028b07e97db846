use Rattle.weight_theory.proofs.crossing_is_bounded.Goals as goal
use Rattle.weight_theory.proofs.Crossings.{power-is-below, crossing-is-below, absolute-is-above}

pub returns : goal.returns
returns c = record { powers = power-is-below; crossings = crossing-is-below; absolute = absolute-is-above }
