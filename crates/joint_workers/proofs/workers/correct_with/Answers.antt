use Rattle.std.proofs.Common.{ℕ, subst}
use Rattle.std.proofs.lemmas.Result.{err_from_is_err_and}
use Rattle.joint_board.specs.Seen.{results_of, AreInOrder}
use Rattle.joint_board.proofs.Found.{seats-new}
use Rattle.joint_workers.proofs.Found.{stop-of, none-stopped, gathered}
use Rattle.joint_workers.proofs.workers.correct_with.Goals as goal

pub found_by_all-requires-clause-seats : goal.found_by_all-requires-clause-seats
found_by_all-requires-clause-seats g c κs within = seats-new c.in_ok-board.board c.in_ok-board.seats.items c.in_ok-board.ensures.seats

pub returns-in_err-kept-clause-stop : goal.returns-in_err-kept-clause-stop
returns-in_err-kept-clause-stop g c =
    let p = err_from_is_err_and c.from_residual-in_err-kept.result c.from_residual-in_err-kept.ensures.1 in
    rw (p.1, p.2) (stop-of c.args.tables.now.diagram c.args.tables.now.order c.args.points.now c.in_ok-board.seats.items c.in_ok-found.found.items c.in_err-kept.field-0.0 c.in_err-kept.ensures.stop c.in_ok-found.ensures)

pub gather-requires-clause-board : goal.gather-requires-clause-board
gather-requires-clause-board g c =
    (none-stopped c.args.tables.now.diagram c.args.tables.now.order c.args.points.now c.in_ok-board.board c.in_ok-board.seats.items c.in_ok-found.found.items c.in_ok-kept.kept.items c.in_ok-board.ensures.seats c.in_ok-kept.ensures.kept c.in_ok-found.ensures).board

pub gather-requires-clause-seats : goal.gather-requires-clause-seats
gather-requires-clause-seats g c =
    (none-stopped c.args.tables.now.diagram c.args.tables.now.order c.args.points.now c.in_ok-board.board c.in_ok-board.seats.items c.in_ok-found.found.items c.in_ok-kept.kept.items c.in_ok-board.ensures.seats c.in_ok-kept.ensures.kept c.in_ok-found.ensures).seats

pub returns-clause-corrections : goal.returns-clause-corrections
returns-clause-corrections g c =
    let e = c.args.tables.now.diagram in
    let n = c.args.tables.now.order in
    let ps = c.args.points.now in
    let ks = c.in_ok-kept.kept.items in
    let h = none-stopped e n ps c.in_ok-board.board c.in_ok-board.seats.items c.in_ok-found.found.items ks c.in_ok-board.ensures.seats c.in_ok-kept.ensures.kept c.in_ok-found.ensures in
    gathered e n ps (results_of ks) c.in_ok-gather.field-0.items h.results
    (subst (λ (m : ℕ). AreInOrder m (results_of ks) c.in_ok-gather.field-0.items) c.in_ok-board.ensures.board.0 c.in_ok-gather.ensures.results)
