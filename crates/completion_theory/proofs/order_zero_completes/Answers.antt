use Rattle.completion_theory.proofs.order_zero_completes.Goals as goal
use Rattle.completion_theory.proofs.OrderZero.{starts}

pub returns : goal.returns
returns c = record { completes = starts }
