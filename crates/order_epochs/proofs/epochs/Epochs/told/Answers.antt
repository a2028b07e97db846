use Rattle.std.proofs.Common.{ap, sym, ◌∙◌, subst}
use Rattle.std.specs.Arc.{arc_value}
use Rattle.order_epochs.specs.declared.shelf.Shelf.{Shelf}
use Rattle.order_epochs.specs.Seen.{SeenEpoch, epoch_of}
use Rattle.order_epochs.specs.Machine.{IsTell}
use Rattle.order_epochs.proofs.Machine.{tells}
use Rattle.order_epochs.proofs.epochs.Epochs.told.Goals as goal

pub returns-clause-machine : goal.returns-clause-machine
returns-clause-machine c =
    let same = sym c.self.view_is ∙ (ap (λ (s : Shelf). epoch_of (arc_value s.0)) (sym c.published.ensures) ∙ sym c.of.ensures) in
    subst (IsTell c.args.self.now.order) (ap (λ (e : SeenEpoch). e.order) same) (tells _)
