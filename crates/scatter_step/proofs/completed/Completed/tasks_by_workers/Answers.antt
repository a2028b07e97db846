use Rattle.std.proofs.Common.{◌≡◌, ℕ, ◌+◌}
use Rattle.scattering.specs.Wall.{walls}
use Rattle.joint_finder.specs.Joints.{AreJoints, points_of}
use Rattle.scatter_step.proofs.OwnJoints.{joints-before}
use Rattle.scatter_step.proofs.Read.{read-into}
use Rattle.scatter_step.proofs.completed.Completed.tasks_by_workers.Goals as goal

pub joints_by_workers-requires-clause-known : goal.joints_by_workers-requires-clause-known
joints_by_workers-requires-clause-known g c κs within =
    read-into (λ k d. (n : ℕ) → n + 1 ≡ k + 1 → AreJoints n (walls d) (points_of c.own_joints.result.now)) c.order.result c.diagram.result.now c.args.self.now.order c.args.self.now.diagram c.order.ensures.value c.diagram.ensures.value
    (joints-before c.args.self.now c.order.ensures.completed c.own_joints.result.now c.own_joints.ensures)
