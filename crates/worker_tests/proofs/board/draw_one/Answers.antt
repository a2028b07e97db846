use Rattle.std.proofs.Common.{◌<◌, ap}
use Rattle.joint_board.proofs.Draws.{drawn_task}
use Rattle.worker_tests.proofs.board.draw_one.Goals as goal

pub returns-clause-results : goal.returns-clause-results
returns-clause-results c =
    let d = c.in-Some.ensures.drawn in
    let less : c.in-Some.task < c.args.seat.now.board.tasks = rw (ap (λ b. b.tasks) c.requires.board) (d.0) in
    rw c.in_ok-push.ensures.items (drawn_task _ _ _ _ _ d.1 less c.requires.results)
