use Rattle.std.proofs.Common.{sym, subst, [], ◌∷◌, ◌++◌}
use Rattle.std.specs.List.{AllZip}
use Rattle.std.proofs.lemmas.List.Elements.{AllZip-push}
use Rattle.session_readers.specs.Seats.{IsFinished}
use Rattle.session_readers.proofs.readers.finish_all.Goals as goal

pub loop-seat-preserved : goal.loop-seat-preserved
loop-seat-preserved g c =
    let R = IsFinished c.args.asks.now in
    subst (AllZip R (c.loop-seat.yielded ++ c.in-Some.seat ∷ [])) (sym c.in_ok-push.ensures.items)
    (AllZip-push R c.loop-seat.yielded c.loop-seat.finished.items c.in-Some.seat c.in_ok-answer_rest.field-0 c.loop-seat.invariant c.in_ok-answer_rest.ensures)
