use Rattle.std.proofs.Common.{arith}
use Rattle.scatter_step.proofs.Outcomes.{reached-next, outcome-whole, outcome-stopped}
use Rattle.joint_workers.proofs.orders.complete_by_workers.Goals as goal

pub returns-in-Err-At : goal.returns-in-Err-At
returns-in-Err-At g c =
    let h = rw c.in-Err-At.field-0-is at c.in-Err-At.ensures.stop in
    rw (c.in-Err-At.order-is, c.in-Err-At.cause-is) (outcome-stopped c.args.initial.now c.args.order c.loop.counter c.loop.last c.loop.invariant c.loop-test.true c.in-Err-At.order c.in-Err-At.cause h.0 h.1)

pub returns : goal.returns
returns g c =
    let a = c.loop.auto.counter-end in
    let b = c.loop-test.false in
    outcome-whole c.args.initial.now c.args.order c.loop.counter c.loop.last c.loop.invariant (omega (arith, a, b))

pub loop-preserved : goal.loop-preserved
loop-preserved g c = reached-next c.args.initial.now c.loop.counter c.loop.last c.in-Ok.next c.loop.invariant c.in-Ok.ensures.next.0 c.in-Ok.ensures.next.1 c.in-Ok.ensures.free
