use Rattle.std.proofs.Common.{◌≡◌, ℕ, ◌+◌, ap, subst, ◌∙◌, List}
use Rattle.std.proofs.lemmas.Result.{err_from_is_err_and, IfOk-weaker, IfErr-weaker}
use Rattle.scattering.specs.Wall.{Diagram, walls}
use Rattle.scattering.specs.Correction.{Corrections}
use Rattle.scattering.specs.Completion.{IsConsistent}
use Rattle.scattering.specs.Stops.{AllNear, SomeFar, AllLight, SomeHeavy}
use Rattle.plane_geom.specs.declared.Point.{Point as CodePoint}
use Rattle.scatter_diagram.specs.Listed.{SeenDiagram}
use Rattle.joint_finder.specs.Joints.{AreJoints, points_of}
use Rattle.ray_merge.specs.Additions.{corrections_of}
use Rattle.scatter_step.specs.Orders.{AreAt, HasHeavy}
use Rattle.scatter_step.proofs.NextOrder.{consistent-before}
use Rattle.scatter_step.proofs.NextStop.{stops-far, stops-heavy, stops-many, stops-not}
use Rattle.scatter_step.proofs.Points.{corrections-at, corrections-light, joints-light, joints-heavy}
use Rattle.scatter_step.proofs.Read.{read-into, read-next}
use Rattle.scatter_step.proofs.Stopped.{IfStop-weaker}
use Rattle.scatter_step.proofs.completed.Completed.next_order.Goals as goal

-- the order, the diagram and the points as they are passed to `joints` and `corrections_at`
module _ (k : ℕ) (e : SeenDiagram) (qs : List CodePoint) (n : ℕ) (d : Diagram) (ps : List CodePoint) (i : k ≡ n) (j : e ≡ record { order = n; diagram = d }) (l : qs ≡ ps) where
  found : AreJoints (k + 1) (walls e.diagram) (points_of ps) → AreJoints (n + 1) (walls d) (points_of ps)
  found h = read-next (λ m ws. AreJoints m ws (points_of ps)) k e n d i j h

  listed : (cs : Corrections) → AreAt (walls e.diagram) (k + 1) (points_of qs) cs → AreAt (walls d) (n + 1) (points_of ps) cs
  listed cs a = subst (λ (xs : List CodePoint). AreAt (walls d) (n + 1) (points_of xs) cs) l (read-next (λ m ws. AreAt ws m (points_of qs) cs) k e n d i j a)

  heavy : AreJoints (k + 1) (walls e.diagram) (points_of ps) → HasHeavy (walls e.diagram) (k + 1) (points_of qs) → SomeHeavy (n + 1) (walls d)
  heavy h y = joints-heavy (walls d) (n + 1) (points_of ps) (found h) (subst (λ (xs : List CodePoint). HasHeavy (walls d) (n + 1) (points_of xs)) l (read-next (λ m ws. HasHeavy ws m (points_of qs)) k e n d i j y))

  light : (cs : Corrections) → AreJoints (k + 1) (walls e.diagram) (points_of ps) → AreAt (walls e.diagram) (k + 1) (points_of qs) cs → AllLight (n + 1) (walls d)
  light cs h a = joints-light (walls d) (n + 1) (points_of ps) cs (found h) (listed cs a)

pub returns-in_err-points-clause-stop : goal.returns-in_err-points-clause-stop
returns-in_err-points-clause-stop c =
    let p = err_from_is_err_and c.from_residual.result c.from_residual.ensures.1 in
    rw (p.1, p.2) (IfStop-weaker c.in_err-points.field-0.0 _ _
    (λ n k h. (
      h.0 ∙ ap (λ (m : ℕ). m + 1) c.order-order.ensures.value,
      stops-far c.args.self.now c.order-order.ensures.completed k h.1 (read-next SomeFar c.order-order.result c.diagram-e.result.now c.args.self.now.order c.args.self.now.diagram c.order-order.ensures.value c.diagram-e.ensures.value h.2),
    )) c.in_err-points.ensures.stop)

pub corrections_at-requires-clause-consistent : goal.corrections_at-requires-clause-consistent
corrections_at-requires-clause-consistent c =
    read-into (λ k d. (n : ℕ) → n + 1 ≡ k + 1 → IsConsistent n (walls d)) c.order-order.result c.diagram-e.result.now c.args.self.now.order c.args.self.now.diagram c.order-order.ensures.value c.diagram-e.ensures.value
    (consistent-before c.args.self.now c.order-order.ensures.completed)

pub returns-in_err-corrections-clause-stop : goal.returns-in_err-corrections-clause-stop
returns-in_err-corrections-clause-stop c =
    let p = err_from_is_err_and c.from_residual-in_err-corrections.result c.from_residual-in_err-corrections.ensures.1 in
    let near = read-next AllNear c.order-order.result c.diagram-e.result.now c.args.self.now.order c.args.self.now.diagram c.order-order.ensures.value c.diagram-e.ensures.value c.in_ok-points.ensures.near in
    rw (p.1, p.2) (IfStop-weaker c.in_err-corrections.field-0.0 _ _
    (λ n k h. (
      h.0 ∙ ap (λ (m : ℕ). m + 1) c.order-order.ensures.value,
      stops-heavy c.args.self.now c.order-order.ensures.completed near k h.1
          (heavy c.order-order.result c.diagram-e.result.now c.as_slice.result.now c.args.self.now.order c.args.self.now.diagram c.in_ok-points.points.items c.order-order.ensures.value c.diagram-e.ensures.value c.as_slice.ensures.value c.in_ok-points.ensures.joints h.2),
    )) c.in_err-corrections.ensures.stop)

pub advance-requires-clause-corrections : goal.advance-requires-clause-corrections
advance-requires-clause-corrections c =
    rw c.as_slice-2.ensures.value
    (corrections-at (walls c.args.self.now.diagram) (c.args.self.now.order + 1) (points_of c.in_ok-points.points.items) (corrections_of c.in_ok-corrections.corrections.items)
    (found c.order-order.result c.diagram-e.result.now c.as_slice.result.now c.args.self.now.order c.args.self.now.diagram c.in_ok-points.points.items c.order-order.ensures.value c.diagram-e.ensures.value c.as_slice.ensures.value c.in_ok-points.ensures.joints)
    (listed c.order-order.result c.diagram-e.result.now c.as_slice.result.now c.args.self.now.order c.args.self.now.diagram c.in_ok-points.points.items c.order-order.ensures.value c.diagram-e.ensures.value c.as_slice.ensures.value _ c.in_ok-corrections.ensures.corrections))

pub advance-requires-clause-light : goal.advance-requires-clause-light
advance-requires-clause-light c =
    rw c.as_slice-2.ensures.value
    (corrections-light (walls c.args.self.now.diagram) (c.args.self.now.order + 1) (points_of c.in_ok-points.points.items) (corrections_of c.in_ok-corrections.corrections.items)
    (listed c.order-order.result c.diagram-e.result.now c.as_slice.result.now c.args.self.now.order c.args.self.now.diagram c.in_ok-points.points.items c.order-order.ensures.value c.diagram-e.ensures.value c.as_slice.ensures.value _ c.in_ok-corrections.ensures.corrections))

pub returns-clause-free : goal.returns-clause-free
returns-clause-free c =
    let near = read-next AllNear c.order-order.result c.diagram-e.result.now c.args.self.now.order c.args.self.now.diagram c.order-order.ensures.value c.diagram-e.ensures.value c.in_ok-points.ensures.near in
    IfOk-weaker c.advance.result _ _ (λ d h. stops-not c.args.self.now c.order-order.ensures.completed near
    (light c.order-order.result c.diagram-e.result.now c.as_slice.result.now c.args.self.now.order c.args.self.now.diagram c.in_ok-points.points.items c.order-order.ensures.value c.diagram-e.ensures.value c.as_slice.ensures.value (corrections_of c.in_ok-corrections.corrections.items) c.in_ok-points.ensures.joints c.in_ok-corrections.ensures.corrections) d h.0 h.1) c.advance.ensures.next

pub returns-clause-stop : goal.returns-clause-stop
returns-clause-stop c =
    let near = read-next AllNear c.order-order.result c.diagram-e.result.now c.args.self.now.order c.args.self.now.diagram c.order-order.ensures.value c.diagram-e.ensures.value c.in_ok-points.ensures.near in
    IfErr-weaker c.advance.result _ _ (λ s. IfStop-weaker s _ _ (λ n k h. (
      h.0,
      stops-many c.args.self.now c.order-order.ensures.completed near
          (light c.order-order.result c.diagram-e.result.now c.as_slice.result.now c.args.self.now.order c.args.self.now.diagram c.in_ok-points.points.items c.order-order.ensures.value c.diagram-e.ensures.value c.as_slice.ensures.value (corrections_of c.in_ok-corrections.corrections.items) c.in_ok-points.ensures.joints c.in_ok-corrections.ensures.corrections) k h.1 h.2,
    ))) c.advance.ensures.stop
