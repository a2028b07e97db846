use Rattle.weight_theory.proofs.images_are_light.Goals as goal
use Rattle.weight_theory.proofs.Stages.{carry-is-below, image-is-below, halves-have-functions, stages-are-light, next-stages-are-light, images-are-light}

pub returns : goal.returns
returns c = record { carried = carry-is-below; image = image-is-below; halves = halves-have-functions; stages = stages-are-light; next = next-stages-are-light; images = images-are-light }
