use Rattle.crossing_theory.proofs.crossing_is_automorphism.Goals as goal
use Rattle.crossing_theory.proofs.CrossingLaws.{keeps-products, keeps-brackets, keeps-center, is-undone}

pub returns : goal.returns
returns c = record { products = keeps-products; brackets = keeps-brackets; center = keeps-center; undone = is-undone }
