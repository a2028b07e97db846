use Rattle.std.proofs.Common.{ℕ, ◌≡◌, ◌∙◌, subst}
use Rattle.std.proofs.lemmas.Result.{IfOk-weaker}
use Rattle.scattering.specs.Wall.{walls}
use Rattle.joint_board.specs.Seen.{new_seat, results_of, AreInOrder}
use Rattle.joint_board.proofs.Found.{seats-new}
use Rattle.ask_workers.proofs.Kept.{All-images, kept-by-all, in-order}
use Rattle.ask_workers.proofs.workers.answers_by_all.Goals as goal

pub answered_by_all-requires-clause-seats : goal.answered_by_all-requires-clause-seats
answered_by_all-requires-clause-seats g c κs within =
    All-images (λ s. s ≡ new_seat c.in_ok-board.board s.number) (λ p. p.seat) c.in_ok-places.places.items
    (seats-new c.in_ok-board.board _ (c.in_ok-places.ensures.seats ∙ c.in_ok-board.ensures.seats))

pub gather-requires-clause-board : goal.gather-requires-clause-board
gather-requires-clause-board g c =
    (kept-by-all (walls c.args.e.now.diagram) c.args.e.now.order c.args.asks.now (λ p. p.seat) c.in_ok-board.board c.in_ok-places.places.items c.in_ok-found.found.items c.in_ok-kept.kept.items
    (c.in_ok-places.ensures.seats ∙ c.in_ok-board.ensures.seats) c.in_ok-kept.ensures c.in_ok-found.ensures).board

pub gather-requires-clause-seats : goal.gather-requires-clause-seats
gather-requires-clause-seats g c =
    (kept-by-all (walls c.args.e.now.diagram) c.args.e.now.order c.args.asks.now (λ p. p.seat) c.in_ok-board.board c.in_ok-places.places.items c.in_ok-found.found.items c.in_ok-kept.kept.items
    (c.in_ok-places.ensures.seats ∙ c.in_ok-board.ensures.seats) c.in_ok-kept.ensures c.in_ok-found.ensures).seats

pub returns : goal.returns
returns g c =
    let ws = walls c.args.e.now.diagram in
    let k = c.args.e.now.order in
    let asks = c.args.asks.now in
    let ks = c.in_ok-kept.kept.items in
    let h = kept-by-all ws k asks (λ p. p.seat) c.in_ok-board.board c.in_ok-places.places.items c.in_ok-found.found.items ks
    (c.in_ok-places.ensures.seats ∙ c.in_ok-board.ensures.seats) c.in_ok-kept.ensures c.in_ok-found.ensures in
    IfOk-weaker c.gather.result _ _
    (λ v o. in-order ws k asks (results_of ks) v.items h.results (subst (λ (n : ℕ). AreInOrder n (results_of ks) v.items) c.in_ok-board.ensures.board.0 o))
    c.gather.ensures.results
