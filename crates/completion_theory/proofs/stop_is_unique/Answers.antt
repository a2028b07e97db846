use Rattle.completion_theory.proofs.stop_is_unique.Goals as goal
use Rattle.completion_theory.proofs.UniqueStop.{stop_is_unique, first_stop_is_unique}

pub returns : goal.returns
returns c = record { stop = stop_is_unique; first = first_stop_is_unique }
