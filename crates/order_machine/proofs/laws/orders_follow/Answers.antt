use Rattle.order_machine.proofs.ReaderLaws.{orders_follow, within_goal}
use Rattle.order_machine.proofs.laws.orders_follow.Goals as goal

pub returns-clause-follow : goal.returns-clause-follow
returns-clause-follow c = orders_follow

pub returns-clause-within : goal.returns-clause-within
returns-clause-within c = within_goal
