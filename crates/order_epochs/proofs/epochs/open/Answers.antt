use Rattle.std.proofs.Common.{◌≡◌, ◌≤◌, fold, sym, ap, ◌∙◌, subst, le_refl}
use Rattle.std.specs.Arc.{arc_value}
use Rattle.scatter_step.specs.Completed.{SeenCompleted}
use Rattle.order_epochs.specs.declared.shelf.Shelf.{Shelf}
use Rattle.order_epochs.proofs.Moves.{steps}
use Rattle.order_epochs.proofs.epochs.open.Goals as goal

pub publish_as-writer-requires : goal.publish_as-writer-requires
publish_as-writer-requires g c next is views h at =
    let now = c.in_ok-writer.writer.desk.shown.value in
    let value : arc_value next.0 ≡ arc_value now.0 = is ∙ ap (λ ops. fold (λ _ (o : Shelf). arc_value o.0) (arc_value now.0) ops) c.in_ok-writer.ensures.1 in
    let up : (arc_value now.0).order ≤ (arc_value next.0).order = subst (λ (x : SeenCompleted). (arc_value now.0).order ≤ x.order) (sym value) (le_refl _) in
    steps _ _ (ap (λ (x : SeenCompleted). x.initial) value) up _ _ views h at
