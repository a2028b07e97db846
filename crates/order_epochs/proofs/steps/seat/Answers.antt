use Rattle.order_epochs.proofs.Moves.{admits, forks, merges}
use Rattle.order_epochs.proofs.steps.seat.Goals as goal

pub reader-requires : goal.reader-requires
reader-requires c x = admits _

pub tell-requires : goal.tell-requires
tell-requires c x = forks _ _ _

pub learn-requires-clause-rule : goal.learn-requires-clause-rule
learn-requires-clause-rule c x = merges _ _ _ _ _
