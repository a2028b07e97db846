use Rattle.completion_theory.proofs.completion_is_determined.Goals as goal
use Rattle.completion_theory.proofs.CompletionExists.{completion_exists}
use Rattle.completion_theory.proofs.UniqueCompletion.{completion_is_unique}

pub returns : goal.returns
returns c = record { exists = completion_exists; unique = completion_is_unique }
