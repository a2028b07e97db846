-- The points' corrections give the next order, or what stopped one of these steps stops it.
use Rattle.std.proofs.Common.{◌+◌}
use Rattle.std.proofs.lemmas.Result.{err_from_is_err_and, IfOk-weaker, IfErr-weaker}
use Rattle.scattering.specs.Wall.{walls}
use Rattle.joint_finder.specs.Joints.{points_of}
use Rattle.ray_merge.specs.Additions.{corrections_of}
use Rattle.scatter_step.proofs.NextStop.{stops-far, stops-heavy, stops-many, stops-not}
use Rattle.scatter_step.proofs.Points.{corrections-at, corrections-light, joints-light, joints-heavy}
use Rattle.scatter_step.proofs.Stopped.{IfStop-weaker}
use Rattle.joint_workers.proofs.orders.next_by_workers.Goals as goal

pub returns-in_err-points-clause-stop : goal.returns-in_err-points-clause-stop
returns-in_err-points-clause-stop g c =
    let p = err_from_is_err_and c.from_residual.result c.from_residual.ensures.1 in
    rw (p.1, p.2) (IfStop-weaker c.in_err-points.field-0.0 _ _ (λ n k h. (h.0, stops-far c.args.done.now c.order.ensures.completed k h.1 h.2)) c.in_err-points.ensures.stop)

pub returns-in_err-corrections-clause-stop : goal.returns-in_err-corrections-clause-stop
returns-in_err-corrections-clause-stop g c =
    let p = err_from_is_err_and c.from_residual-in_err-corrections.result c.from_residual-in_err-corrections.ensures.1 in
    rw (p.1, p.2) (IfStop-weaker c.in_err-corrections.field-0.0 _ _
    (λ n k h. (
      h.0,
      stops-heavy c.args.done.now c.order.ensures.completed c.in_ok-points.ensures.near k h.1
          (joints-heavy (walls c.args.done.now.diagram) (c.args.done.now.order + 1) (points_of c.in_ok-points.points.items) c.in_ok-points.ensures.points h.2),
    )) (rw c.as_slice.ensures.value at c.in_err-corrections.ensures.stop))

pub advance-requires-clause-corrections : goal.advance-requires-clause-corrections
advance-requires-clause-corrections g c =
    rw c.as_slice-2.ensures.value
    (corrections-at (walls c.args.done.now.diagram) (c.args.done.now.order + 1) (points_of c.in_ok-points.points.items) (corrections_of c.in_ok-corrections.corrections.items) c.in_ok-points.ensures.points
    (rw c.as_slice.ensures.value at c.in_ok-corrections.ensures.corrections))

pub advance-requires-clause-light : goal.advance-requires-clause-light
advance-requires-clause-light g c =
    rw c.as_slice-2.ensures.value
    (corrections-light (walls c.args.done.now.diagram) (c.args.done.now.order + 1) (points_of c.in_ok-points.points.items) (corrections_of c.in_ok-corrections.corrections.items)
    (rw c.as_slice.ensures.value at c.in_ok-corrections.ensures.corrections))

pub returns-clause-free : goal.returns-clause-free
returns-clause-free g c =
    IfOk-weaker c.advance.result _ _ (λ d h. stops-not c.args.done.now c.order.ensures.completed c.in_ok-points.ensures.near
    (joints-light (walls c.args.done.now.diagram) (c.args.done.now.order + 1) (points_of c.in_ok-points.points.items) (corrections_of c.in_ok-corrections.corrections.items) c.in_ok-points.ensures.points
    (rw c.as_slice.ensures.value at c.in_ok-corrections.ensures.corrections)) d h.0 h.1) c.advance.ensures.next

pub returns-clause-stop : goal.returns-clause-stop
returns-clause-stop g c =
    IfErr-weaker c.advance.result _ _ (λ s. IfStop-weaker s _ _ (λ n k h. (
      h.0,
      stops-many c.args.done.now c.order.ensures.completed c.in_ok-points.ensures.near
          (joints-light (walls c.args.done.now.diagram) (c.args.done.now.order + 1) (points_of c.in_ok-points.points.items) (corrections_of c.in_ok-corrections.corrections.items) c.in_ok-points.ensures.points
          (rw c.as_slice.ensures.value at c.in_ok-corrections.ensures.corrections)) k h.1 h.2,
    ))) c.advance.ensures.stop
