use Rattle.crossing_theory.proofs.crossings_commute.Goals as goal
use Rattle.crossing_theory.proofs.CrossingLaws.{parallel-commute, high-commute}

pub returns : goal.returns
returns c = record { parallel = parallel-commute; high = high-commute }
