use Rattle.joint_workers.proofs.Tasks.{few-tasks}
use Rattle.joint_workers.proofs.workers.correct_all.Goals as goal

pub correct_with-requires-clause-points : goal.correct_with-requires-clause-points
correct_with-requires-clause-points g c κs within = few-tasks c.args.done.now c.order.ensures.completed c.args.points.now c.requires.points
