use Rattle.weight_theory.proofs.starting_rays_are_light.Goals as goal
use Rattle.weight_theory.proofs.StartingRays.{starting-ray-is-light, starting-cut-ray-is-light}

pub returns : goal.returns
returns c = record { whole = starting-ray-is-light; cut = starting-cut-ray-is-light }
