use Rattle.theta_algebra.proofs.OneAnswer.{answer-one}
use Rattle.theta_algebra.proofs.laws.one_answer.Goals as goal

pub returns : goal.returns
returns c = answer-one
