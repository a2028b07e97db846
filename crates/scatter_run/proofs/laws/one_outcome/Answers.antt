use Rattle.scatter_run.proofs.OneOutcome.{outcome-one}
use Rattle.scatter_run.proofs.laws.one_outcome.Goals as goal

pub returns : goal.returns
returns c = outcome-one
