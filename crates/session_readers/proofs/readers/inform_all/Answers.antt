use Rattle.std.proofs.Common.{sym, subst, [], ◌∷◌, ◌++◌}
use Rattle.std.specs.List.{AllZip}
use Rattle.std.proofs.lemmas.List.Elements.{AllZip-push}
use Rattle.order_epochs.specs.Seen.{SeenEpoch}
use Rattle.session_readers.specs.Seats.{IsInformed}
use Rattle.session_readers.proofs.readers.inform_all.Goals as goal

pub loop-seat-preserved : goal.loop-seat-preserved
loop-seat-preserved c =
    let R = IsInformed c.args.epochs.now.order in
    subst (AllZip R (c.loop-seat.yielded ++ c.in-Some.seat ∷ [])) (sym c.in_ok-push.ensures.items)
    (AllZip-push R c.loop-seat.yielded c.loop-seat.informed.items c.in-Some.seat c.learn.result c.loop-seat.invariant
    (subst (λ (e : SeenEpoch). IsInformed e.order c.in-Some.seat c.learn.result) c.told.ensures.told c.learn.ensures))
