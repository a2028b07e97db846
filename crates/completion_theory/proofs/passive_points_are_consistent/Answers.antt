use Rattle.completion_theory.proofs.passive_points_are_consistent.Goals as goal
use Rattle.completion_theory.proofs.RaisedDiagram.{passive_points_are_consistent}

pub returns : goal.returns
returns c = record { consistent = passive_points_are_consistent }
