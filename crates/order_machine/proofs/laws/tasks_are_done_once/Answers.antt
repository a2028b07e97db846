use Rattle.order_machine.proofs.TaskLaws.{numbers_follow, all_finished}
use Rattle.order_machine.proofs.laws.tasks_are_done_once.Goals as goal

pub returns-clause-drawn : goal.returns-clause-drawn
returns-clause-drawn c = numbers_follow

pub returns-clause-finished : goal.returns-clause-finished
returns-clause-finished c = all_finished
