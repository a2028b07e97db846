use Rattle.std.proofs.Common.{◌+◌}
use Rattle.scattering.specs.Wall.{walls}
use Rattle.joint_finder.specs.Joints.{points_of}
use Rattle.ray_merge.specs.Additions.{corrections_of}
use Rattle.scatter_step.proofs.Points.{corrections-at, corrections-light}
use Rattle.order_tests.proofs.workers.next.Goals as goal

pub advance-requires-clause-corrections : goal.advance-requires-clause-corrections
advance-requires-clause-corrections g c =
    rw c.as_slice-2.ensures.value
    (corrections-at (walls c.args.last.now.diagram) (c.args.last.now.order + 1) (points_of c.in_ok-points.points.items) (corrections_of c.in_ok-corrections.corrections.items) c.in_ok-points.ensures.points
    (rw c.as_slice.ensures.value at c.in_ok-corrections.ensures.corrections))

pub advance-requires-clause-light : goal.advance-requires-clause-light
advance-requires-clause-light g c =
    rw c.as_slice-2.ensures.value
    (corrections-light (walls c.args.last.now.diagram) (c.args.last.now.order + 1) (points_of c.in_ok-points.points.items) (corrections_of c.in_ok-corrections.corrections.items)
    (rw c.as_slice.ensures.value at c.in_ok-corrections.ensures.corrections))
