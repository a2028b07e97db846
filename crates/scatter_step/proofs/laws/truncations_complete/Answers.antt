use Rattle.scatter_step.proofs.Uniqueness.{truncation-completes}
use Rattle.scatter_step.proofs.laws.truncations_complete.Goals as goal

pub returns : goal.returns
returns c = truncation-completes
