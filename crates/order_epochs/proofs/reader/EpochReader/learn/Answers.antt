use Rattle.std.proofs.Common.{◌≡◌, max, ap, subst, arith}
use Rattle.order_epochs.specs.Seen.{SeenEpoch}
use Rattle.order_epochs.specs.Machine.{IsLearn}
use Rattle.order_epochs.proofs.Machine.{learns}
use Rattle.order_epochs.proofs.reader.EpochReader.learn.Goals as goal

pub returns-then-seen-self-clause-machine : goal.returns-then-seen-self-clause-machine
returns-then-seen-self-clause-machine c =
    let here = ap (λ (e : SeenEpoch). e.order) c.self.view_is in
    let top : max c.args.self.order c.args.told.order ≡ c.self.inside.seen = omega (arith, here, c.order-seen.ensures, c.if-seen-self.true) in
    subst (IsLearn c.args.self.order c.args.told.order) top (learns _ _)

pub returns-clause-machine : goal.returns-clause-machine
returns-clause-machine c =
    let here = ap (λ (e : SeenEpoch). e.order) c.self.view_is in
    let top : max c.args.self.order c.args.told.order ≡ c.order-seen.result = omega (arith, here, c.order-seen.ensures, c.if-seen-self.false) in
    subst (IsLearn c.args.self.order c.args.told.order) top (learns _ _)
