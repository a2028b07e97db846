use Rattle.plane_theory.proofs.place_on_wall_is_decided.Goals as goal
use Rattle.plane_theory.proofs.PlacesOnWalls.{on-is-decided}

pub returns : goal.returns
returns c = record { decided = on-is-decided }
