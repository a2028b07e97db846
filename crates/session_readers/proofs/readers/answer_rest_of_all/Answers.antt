use Rattle.std.proofs.Common.{length, le_refl}
use Rattle.std.proofs.lemmas.Result.{IfOk-weaker}
use Rattle.session_readers.specs.Seats.{IsContinued, IsFinished}
use Rattle.session_readers.proofs.Places.{zip-then}
use Rattle.session_readers.proofs.Begun.{beside-places, beside-seats}
use Rattle.session_readers.proofs.Continued.{continued-then}
use Rattle.session_readers.proofs.readers.answer_rest_of_all.Goals as goal

pub finish_all-requires-clause-next : goal.finish_all-requires-clause-next
finish_all-requires-clause-next g c κs within =
    let top = length c.args.asks.now in
    beside-places c.args.asks.now top c.args.seats.items c.in_ok-answered.answered.items c.in_ok-answered.ensures top (le_refl top)

pub finish_all-requires-clause-seats : goal.finish_all-requires-clause-seats
finish_all-requires-clause-seats g c κs within =
    beside-seats c.args.asks.now (length c.args.asks.now) c.args.seats.items c.in_ok-answered.answered.items c.in_ok-answered.ensures

pub returns : goal.returns
returns g c =
    let asks = c.args.asks.now in
    let top = length asks in
    IfOk-weaker c.finish_all.result _ _
    (λ v h. zip-then (IsContinued asks top) (IsFinished asks) (IsFinished asks) (λ s t u a b. (continued-then asks top top s t u a b.0, b.1))
    c.args.seats.items c.in_ok-answered.answered.items v.items c.in_ok-answered.ensures h)
    c.finish_all.ensures
