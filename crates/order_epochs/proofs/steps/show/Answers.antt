use Rattle.std.proofs.Common.{◌≡◌, ◌≤◌, drop, fold, sym, ap, ◌∙◌, subst}
use Rattle.std.specs.Arc.{arc_value}
use Rattle.scatter_step.specs.Completed.{SeenCompleted}
use Rattle.order_epochs.specs.declared.shelf.Shelf.{Shelf}
use Rattle.order_epochs.proofs.Moves.{steps, fold_last}
use Rattle.order_epochs.proofs.steps.show.Goals as goal

pub publish_as-requires : goal.publish_as-requires
publish_as-requires g c next is views h at =
    let now = c.append.new.self.desk.shown.value in
    let old = c.args.writer.desk.shown.value in
    let here : now ≡ old = ap (λ d. d.shown.value) c.append.ensures.desk in
    let value : arc_value next.0 ≡ arc_value c.args.next.0 =
    is ∙ (ap (λ ops. fold (λ _ (o : Shelf). arc_value o.0) (arc_value now.0) ops) c.in-Ok.ensures.pending ∙ fold_last (λ (o : Shelf). arc_value o.0) (arc_value now.0) (drop c.args.writer.behind c.args.writer.log.items) c.args.next) in
    let lines = ap (λ (x : SeenCompleted). x.initial) value ∙ (c.requires.lines ∙ ap (λ (x : Shelf). (arc_value x.0).initial) (sym here)) in
    let up : (arc_value now.0).order ≤ (arc_value next.0).order = subst (λ (x : SeenCompleted). (arc_value now.0).order ≤ x.order) (sym value) (subst (λ (x : Shelf). (arc_value x.0).order ≤ (arc_value c.args.next.0).order) (sym here) c.requires.order) in
    steps _ _ lines up _ _ views h at
