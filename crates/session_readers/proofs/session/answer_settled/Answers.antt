use Rattle.std.proofs.Common.{length}
use Rattle.std.proofs.lemmas.Result.{IfOk-weaker}
use Rattle.session_readers.proofs.Settled.{informed-places, informed-seats, settled-seats}
use Rattle.session_readers.proofs.session.answer_settled.Goals as goal
use Rattle.session_readers.proofs.session.answer_settled.Goals.{in-Ok, in-Err}

pub answer_rest_of_all-answered-requires-clause-next :
    goal.answer_rest_of_all-answered-requires-clause-next
answer_rest_of_all-answered-requires-clause-next g c κs within =
    let asks = c.args.asks.now in
    informed-places asks c.args.epochs.order c.args.seats.items c.in-Ok.informed.items c.in-Ok.ensures (length asks) c.requires.next

pub answer_rest_of_all-answered-requires-clause-seats :
    goal.answer_rest_of_all-answered-requires-clause-seats
answer_rest_of_all-answered-requires-clause-seats g c κs within =
    informed-seats c.args.asks.now c.args.epochs.order c.args.seats.items c.in-Ok.informed.items c.in-Ok.ensures c.requires.seats

pub returns : goal.returns
returns g c =
    let asks = c.args.asks.now in
    let k = c.args.epochs.order in
    let ss = c.args.seats.items in
    elim c.match-inform_all.branch [
      | in-Ok w ↦ rw w.answered-is
          (IfOk-weaker w.answer_rest_of_all-answered.result _ _ (λ vs h. settled-seats asks k ss w.in-Ok.informed.items w.in-Ok.ensures vs.items h) w.answer_rest_of_all-answered.ensures)
      | in-Err w ↦ rw w.answered-is tt
    ]
