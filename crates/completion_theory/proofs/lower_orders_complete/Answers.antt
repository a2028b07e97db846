use Rattle.completion_theory.proofs.lower_orders_complete.Goals as goal
use Rattle.completion_theory.proofs.LowerOrders.{lower_orders}

pub returns : goal.returns
returns c = record { completes = lower_orders }
