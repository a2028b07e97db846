use Rattle.completion_theory.proofs.next_order_completes.Goals as goal
use Rattle.completion_theory.proofs.NextOrder.{step_completes}

pub returns : goal.returns
returns c = record { completes = step_completes }
