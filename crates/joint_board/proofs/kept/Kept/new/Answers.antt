use Rattle.std.proofs.Common.{sym, ◌∙◌}
use Rattle.joint_board.proofs.Machine.{finished_tasks}
use Rattle.joint_board.proofs.kept.Kept.new.Goals as goal

pub returns-clause-machine : goal.returns-clause-machine
returns-clause-machine g c w b d = finished_tasks c.args.seat w b d ∙ sym c.requires.results
