-- What stops the order after a completion of lines.
use Rattle.std.proofs.Common.{◌≡◌, ℕ, ◌+◌, sym, subst, add-one}
use Rattle.std.specs.Prelude.{Option, Some, None}
use Rattle.scattering.specs.Wall.{Diagram, walls}
use Rattle.scattering.specs.Completion.{IsCompletion}
use Rattle.scattering.specs.Stops.{StopCause, PointTooLarge, WeightTooLarge, TooManyWalls, AllNear, SomeFar, AllLight, SomeHeavy, StopsAfter, IsStopAt}
use Rattle.scatter_diagram.specs.Listed.{SeenInitial}
use Rattle.scatter_step.specs.Completed.{SeenCompleted, IsCompleted}
use Rattle.scatter_step.specs.Orders.{IsNextCompletion, HasManyWalls}
use Rattle.scatter_step.proofs.NextOrder.{unraised}

module _ (c : SeenCompleted) (h : IsCompleted c) where
  stops-next : (s : Option StopCause) → StopsAfter c.initial.lines c.order (walls c.diagram) s → IsStopAt c.initial.lines (c.order + 1) s
  stops-next s a =
      subst (λ (n : ℕ). IsStopAt c.initial.lines n s) (sym (add-one c.order))
      (c.diagram, h.completes, subst (λ (e : Diagram). StopsAfter c.initial.lines c.order (walls e) s) (sym (unraised c h)) a)

  pub stops-far : (k : StopCause) → k ≡ PointTooLarge → SomeFar (c.order + 1) (walls c.diagram) → IsStopAt c.initial.lines (c.order + 1) (Some k)
  stops-far k q f = subst (λ (k : StopCause). IsStopAt c.initial.lines (c.order + 1) (Some k)) (sym q) (stops-next (Some PointTooLarge) f)

  module _ (near : AllNear (c.order + 1) (walls c.diagram)) where
    pub stops-heavy : (k : StopCause) → k ≡ WeightTooLarge → SomeHeavy (c.order + 1) (walls c.diagram) → IsStopAt c.initial.lines (c.order + 1) (Some k)
    stops-heavy k q y = subst (λ (k : StopCause). IsStopAt c.initial.lines (c.order + 1) (Some k)) (sym q) (stops-next (Some WeightTooLarge) (near, y))

    module _ (light : AllLight (c.order + 1) (walls c.diagram)) where
      pub stops-many : (k : StopCause) → k ≡ TooManyWalls → HasManyWalls c.initial.lines (c.order + 1) → IsStopAt c.initial.lines (c.order + 1) (Some k)
      stops-many k q m = subst (λ (k : StopCause). IsStopAt c.initial.lines (c.order + 1) (Some k)) (sym q) (stops-next (Some TooManyWalls) (near, light, m))

      pub stops-not : (d : SeenCompleted) → IsNextCompletion c d → IsCompleted d → IsStopAt c.initial.lines (c.order + 1) None
      stops-not d i k =
          stops-next None (
            near,
            light,
            (
              d.diagram,
              subst (λ (x : SeenInitial). IsCompletion x.lines (c.order + 1) d.diagram) i.0 (subst (λ (n : ℕ). IsCompletion d.initial.lines n d.diagram) i.1 k.completes),
              k.few,
            ),
          )
