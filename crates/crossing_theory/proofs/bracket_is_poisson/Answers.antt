use Rattle.crossing_theory.proofs.bracket_is_poisson.Goals as goal
use Rattle.crossing_theory.proofs.BracketLaws.{antisymmetric, derives, derives-first, jacobi}

pub returns : goal.returns
returns c = record { antisymmetric = antisymmetric; derives = derives; derives_first = derives-first; jacobi = jacobi }
