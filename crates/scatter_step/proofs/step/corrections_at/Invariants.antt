use Rattle.std.proofs.Common.{take}
use Rattle.scattering.specs.Wall.{walls}
use Rattle.joint_finder.specs.Joints.{points_of}
use Rattle.ray_merge.specs.Additions.{corrections_of}
use Rattle.local_product.specs.Workspace.{IsWorkspaceOf}
use Rattle.scatter_step.specs.Orders.{AreAt}
use Rattle.scatter_step.proofs.step.corrections_at.Given as goal

abbrev pub invariant-loop-p : goal.invariant-loop-p
invariant-loop-p l = record {
  corrections : AreAt (walls l.e.diagram) l.order (points_of (take l.p-index l.points)) (corrections_of l.out.items);
  workspace : IsWorkspaceOf l.order l.workspace;
}
