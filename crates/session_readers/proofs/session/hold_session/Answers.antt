use Rattle.std.proofs.Common.{◌≤◌, ℕ, refl, sym, subst, ◌∙◌, length, All}
use Rattle.scatter_diagram.specs.Listed.{SeenInitial}
use Rattle.scatter_step.specs.Orders.{IsOutcome}
use Rattle.theta_algebra.specs.Answering.{Ask}
use Rattle.session_readers.specs.Seats.{AreFullSeats, AreLater}
use Rattle.session_readers.specs.Gathered.{AreGathered}
use Rattle.session_readers.proofs.Begun.{new-places, new-seats, beside-places, beside-seats}
use Rattle.session_readers.proofs.Ended.{settle-within, last-lines, last-seats, last-later, session-ended}
use Rattle.session_readers.proofs.session.hold_session.Goals as goal

pub answer_beside-requires-clause-next : goal.answer_beside-requires-clause-next
answer_beside-requires-clause-next g c κs within = new-places _ c.in_ok-epochs.seats.items c.in_ok-epochs.ensures.seats c.unwrap_or-before.result

pub answer_beside-requires-clause-seats : goal.answer_beside-requires-clause-seats
answer_beside-requires-clause-seats g c κs within = new-seats _ c.in_ok-epochs.seats.items c.in_ok-epochs.ensures.seats c.args.asks.now

pub answer_settled-requires-clause-lines : goal.answer_settled-requires-clause-lines
answer_settled-requires-clause-lines g c κs within =
    let both = c.in_ok-epochs-2 in
    last-lines c.args.readers c.unwrap_or-before.result c.args.order c.args.asks.now c.in_ok-first.first c.in_ok-copy.copy both.epochs both.outcome c.in_ok-epochs.seats.items both.seats.items
    c.in_ok-copy.ensures c.in_ok-epochs.ensures.seats both.ensures.seats both.ensures.outcome both.ensures.store

pub answer_settled-requires-clause-next : goal.answer_settled-requires-clause-next
answer_settled-requires-clause-next g c κs within =
    let asks = c.args.asks.now in
    let both = c.in_ok-epochs-2 in
    let few = subst (λ (m : ℕ). m ≤ length asks) (sym c.unwrap_or-before.ensures) (settle-within c.args.settle (length asks) c.requires.settle) in
    beside-places asks c.unwrap_or-before.result c.in_ok-epochs.seats.items both.seats.items both.ensures.seats (length asks) few

pub answer_settled-requires-clause-seats : goal.answer_settled-requires-clause-seats
answer_settled-requires-clause-seats g c κs within =
    beside-seats c.args.asks.now c.unwrap_or-before.result c.in_ok-epochs.seats.items c.in_ok-epochs-2.seats.items c.in_ok-epochs-2.ensures.seats

pub gather-requires-clause-numbers : goal.gather-requires-clause-numbers
gather-requires-clause-numbers g c =
    let both = c.in_ok-epochs-2 in
    let seats = c.in_ok-seats.seats in
    let full = last-seats c.args.readers c.unwrap_or-before.result c.args.order c.args.asks.now c.in_ok-first.first c.in_ok-copy.copy both.epochs both.outcome c.in_ok-epochs.seats.items both.seats.items
    c.in_ok-copy.ensures c.in_ok-epochs.ensures.seats both.ensures.seats both.ensures.outcome both.ensures.store seats.items c.in_ok-seats.ensures in
    subst (λ (n : ℕ). All (λ (a : Ask). (1 ≤ a.0) × (a.0 ≤ n)) c.args.asks.now) (sym full.0 ∙ sym seats.ok.0) c.requires.numbers

pub gather-requires-clause-seats : goal.gather-requires-clause-seats
gather-requires-clause-seats g c =
    let both = c.in_ok-epochs-2 in
    let seats = c.in_ok-seats.seats in
    let full = last-seats c.args.readers c.unwrap_or-before.result c.args.order c.args.asks.now c.in_ok-first.first c.in_ok-copy.copy both.epochs both.outcome c.in_ok-epochs.seats.items both.seats.items
    c.in_ok-copy.ensures c.in_ok-epochs.ensures.seats both.ensures.seats both.ensures.outcome both.ensures.store seats.items c.in_ok-seats.ensures in
    (sym seats.ok.0, full.1)

pub returns : goal.returns
returns g c =
    let asks = c.args.asks.now in
    let both = c.in_ok-epochs-2 in
    let o = both.outcome in
    let vs = c.in_ok-seats.seats.items in
    let out = subst (λ (i : SeenInitial). IsOutcome i c.args.order o) c.in_ok-first.ensures.initial both.ensures.outcome in
    let full = last-seats c.args.readers c.unwrap_or-before.result c.args.order asks c.in_ok-first.first c.in_ok-copy.copy both.epochs o c.in_ok-epochs.seats.items both.seats.items
    c.in_ok-copy.ensures c.in_ok-epochs.ensures.seats both.ensures.seats both.ensures.outcome both.ensures.store vs c.in_ok-seats.ensures in
    let later = last-later c.args.readers c.unwrap_or-before.result c.args.order asks c.in_ok-first.first c.in_ok-copy.copy both.epochs o c.in_ok-epochs.seats.items both.seats.items
    c.in_ok-copy.ensures c.in_ok-epochs.ensures.seats both.ensures.seats both.ensures.outcome both.ensures.store vs c.in_ok-seats.ensures in
    let answers = c.in_ok-answers.answers in
    session-ended c.args.initial.now c.args.order c.args.readers asks c.args.settle o vs _ out refl c.order.ensures.value
    (subst (λ (l : SeenInitial). AreFullSeats l asks c.args.readers vs) out.initial full)
    (subst (λ (m : ℕ). AreLater m o.last.order vs) c.unwrap_or-before.ensures later)
    (sym answers.ok.0 ∙ c.in_ok-answers.ensures.length)
    (subst (λ (l : SeenInitial). AreGathered l o.last.order vs asks answers.items) out.initial c.in_ok-answers.ensures.answers)
