use Rattle.std.proofs.Common.{◌≡◌, ◌∙◌, sym, ap, arith}
use Rattle.joint_board.proofs.Found.{both-ok}
use Rattle.order_epochs.specs.Seen.{epoch_of}
use Rattle.scatter_step.proofs.Outcomes.{reached-next, outcome-whole}
use Rattle.session_readers.proofs.Published.{outcome-of-stop}
use Rattle.session_readers.proofs.writer.publish_orders.Goals as goal

pub returns-in-Err : goal.returns-in-Err
returns-in-Err g c =
    let before = c.loop.invariant in
    let store = rw c.in-Err.is at c.publish_next-newer.ensures.store in
    both-ok (λ o. o.last ≡ c.loop.last) _ _ c.stopped_at.result
    (λ o same stops. (
      store ∙ (before.store ∙ ap epoch_of (sym same)),
      outcome-of-stop c.args.first.initial c.args.order c.loop.counter c.loop.last o before.reached c.loop-test.true same stops,
    ))
    c.stopped_at.ensures.last c.stopped_at.ensures.stop

pub loop-preserved : goal.loop-preserved
loop-preserved g c =
    let next = rw c.in-Ok.is at c.publish_next-newer.ensures.next in record {
      store = rw c.in-Ok.is at c.publish_next-newer.ensures.store;
      reached = reached-next c.args.first.initial c.loop.counter c.loop.last c.in-Ok.next c.loop.invariant.reached next.0 next.1 next.2;
    }

pub returns : goal.returns
returns g c =
    let a = c.loop.auto.counter-end in
    let b = c.loop-test.false in
    (c.loop.invariant.store, outcome-whole c.args.first.initial c.args.order c.loop.counter c.loop.last c.loop.invariant.reached (omega (arith, a, b)))
