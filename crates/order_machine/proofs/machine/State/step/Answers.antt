use Rattle.order_machine.proofs.Steps.{outcome}
use Rattle.order_machine.proofs.machine.State.step.Goals as goal

pub returns-clause-step : goal.returns-clause-step
returns-clause-step c = outcome _ _ _ _ c.requires.named c.act.ensures
