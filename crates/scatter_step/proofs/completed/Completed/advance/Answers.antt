use Rattle.std.proofs.Common.{ℕ, ◌+◌, sym, ap, subst, ◌∙◌}
use Rattle.std.proofs.lemmas.Result.{err_from_is_err_and}
use Rattle.scattering.specs.Wall.{Diagram, walls}
use Rattle.scattering.specs.Completion.{IsCompletion}
use Rattle.scattering.specs.Correction.{IsMerged}
use Rattle.scatter_diagram.specs.Listed.{SeenInitial}
use Rattle.ray_merge.specs.Additions.{corrections_of}
use Rattle.ray_merge.specs.Answer.{StayWithin}
use Rattle.scatter_step.proofs.NextOrder.{mergeable, light, stay-within, completes-next}
use Rattle.scatter_step.proofs.OwnJoints.{corrected-joints}
use Rattle.scatter_step.proofs.Read.{read-from, read-into}
use Rattle.scatter_step.proofs.Tame.{tame-corrections}
use Rattle.scatter_step.proofs.Stopped.{IfStop-weaker}
use Rattle.scatter_step.proofs.completed.Completed.advance.Goals as goal

pub merged-requires-clause-mergeable : goal.merged-requires-clause-mergeable
merged-requires-clause-mergeable c = rw c.order-order.ensures.value (mergeable c.args.self.now c.order-order.ensures.completed c.requires.order _ c.requires.corrections)

pub merged-requires-clause-tame : goal.merged-requires-clause-tame
merged-requires-clause-tame c =
    rw c.order-order.ensures.value
    (tame-corrections (walls c.args.self.now.diagram) (c.args.self.now.order + 1) (corrections_of c.args.corrections.now)
    c.order-order.ensures.tame c.requires.corrections)

pub merged-requires-clause-light : goal.merged-requires-clause-light
merged-requires-clause-light c = light c.args.self.now c.order-order.ensures.completed c.requires.order _ c.requires.corrections c.requires.light

pub merged-requires-clause-within : goal.merged-requires-clause-within
merged-requires-clause-within c =
    read-into (λ n d. StayWithin (n + 1) (corrections_of c.args.corrections.now) d.rays) c.order-order.result c.diagram-e.result.now c.args.self.now.order c.args.self.now.diagram c.order-order.ensures.value c.diagram-e.ensures.value
    (stay-within c.args.self.now c.order-order.ensures.completed c.requires.order _ c.requires.corrections c.requires.light)

pub returns-in_err-next-clause-stop : goal.returns-in_err-next-clause-stop
returns-in_err-next-clause-stop c =
    let p = err_from_is_err_and c.from_residual.result c.from_residual.ensures.1 in
    rw (p.1, p.2) (IfStop-weaker c.in_err-next.field-0.0 _ _ (λ n k h. (h.0 ∙ ap (λ (m : ℕ). m + 1) c.order-order.ensures.value, h.1, (h.2.0, completes h.2.0 h.2.1, h.2.2))) c.in_err-next.ensures)
  where
    completes : (e' : Diagram) → IsMerged c.initial.result.now.lines c.diagram-e.result.now.diagram (corrections_of c.args.corrections.now) (c.order-order.result + 1) e' → IsCompletion c.args.self.now.initial.lines (c.args.self.now.order + 1) e'
    completes e' m =
        completes-next c.args.self.now c.order-order.ensures.completed c.requires.order (corrections_of c.args.corrections.now) c.requires.corrections e'
        (read-from (λ n d. IsMerged c.args.self.now.initial.lines d (corrections_of c.args.corrections.now) (n + 1) e') c.order-order.result c.diagram-e.result.now c.args.self.now.order c.args.self.now.diagram c.order-order.ensures.value c.diagram-e.ensures.value
        (subst (λ (i : SeenInitial). IsMerged i.lines c.diagram-e.result.now.diagram (corrections_of c.args.corrections.now) (c.order-order.result + 1) e') c.initial.ensures.value m))

pub with_diagram-requires-clause-completes : goal.with_diagram-requires-clause-completes
with_diagram-requires-clause-completes c =
    subst (λ (n : ℕ). IsCompletion c.args.self.now.initial.lines n c.in_ok-next.next.diagram) (sym (c.in_ok-next.ensures.order ∙ ap (λ (m : ℕ). m + 1) c.order-order.ensures.value))
    (completes-next c.args.self.now c.order-order.ensures.completed c.requires.order (corrections_of c.args.corrections.now) c.requires.corrections c.in_ok-next.next.diagram
    (read-from (λ n d. IsMerged c.args.self.now.initial.lines d (corrections_of c.args.corrections.now) (n + 1) c.in_ok-next.next.diagram) c.order-order.result c.diagram-e.result.now c.args.self.now.order c.args.self.now.diagram c.order-order.ensures.value c.diagram-e.ensures.value
    (subst (λ (i : SeenInitial). IsMerged i.lines c.diagram-e.result.now.diagram (corrections_of c.args.corrections.now) (c.order-order.result + 1) c.in_ok-next.next.diagram) c.initial.ensures.value c.in_ok-next.ensures.merged)))

pub with_diagram-requires-clause-points : goal.with_diagram-requires-clause-points
with_diagram-requires-clause-points c =
    corrected-joints c.args.self.now c.order-order.ensures.completed c.requires.order c.args.corrections.now c.in_ok-points.points.items c.in_ok-next.next.order c.in_ok-next.next.diagram c.requires.corrections c.in_ok-points.ensures
    (c.in_ok-next.ensures.order ∙ ap (λ (m : ℕ). m + 1) c.order-order.ensures.value) (with_diagram-requires-clause-completes c)
