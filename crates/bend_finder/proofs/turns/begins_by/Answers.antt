use Rattle.scatter_diagram.specs.Shown.{wall_of}
use Rattle.bend_finder.proofs.LowTerms.{none-below, none-dead}
use Rattle.bend_finder.proofs.turns.begins_by.Goals as goal

pub returns-in-Some : goal.returns-in-Some
returns-in-Some c = λ f. none-below c.in-Some.least c.args.most (wall_of c.args.w.now) c.in-Some.ensures f

pub returns-in-None : goal.returns-in-None
returns-in-None c = λ f. none-dead c.args.most (wall_of c.args.w.now) c.in-None.ensures
