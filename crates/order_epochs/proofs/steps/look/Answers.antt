use Rattle.std.proofs.Common.{refl, le_refl}
use Rattle.order_epochs.proofs.Moves.{steps}
use Rattle.order_epochs.proofs.steps.look.Goals as goal

pub enter_as-requires : goal.enter_as-requires
enter_as-requires c x views h at = steps _ _ refl (le_refl _) _ _ views h at
