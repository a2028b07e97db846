use Rattle.std.proofs.Common.{subst}
use Rattle.scattering.specs.Wall.{walls}
use Rattle.scatter_diagram.specs.Listed.{SeenDiagram}
use Rattle.theta_algebra.specs.Answering.{IsAnswer}
use Rattle.theta_algebra.proofs.answering.answer.Goals as goal

pub returns : goal.returns
returns c = subst (λ (e : SeenDiagram). IsAnswer (walls e.diagram) e.order c.args.query.now c.answer.result) c.new-tracers.ensures c.answer.ensures.answer
