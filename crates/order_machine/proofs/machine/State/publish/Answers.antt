use Rattle.std.proofs.Common.{arith}
use Rattle.order_machine.proofs.machine.State.publish.Goals as goal

pub overflow_add-self : goal.overflow_add-self
overflow_add-self c = let up = c.self.invariant.up _ c.in-Some.is in let less = up.1 in omega arith
