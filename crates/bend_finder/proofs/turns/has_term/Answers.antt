use Rattle.std.proofs.Common.{subst, List}
use Rattle.std.proofs.lemmas.List.{take_all}
use Rattle.scatter_diagram.specs.Shown.{walls_of}
use Rattle.scatter_diagram.specs.declared.wall.Wall.{Wall as CodeWall}
use Rattle.bend_finder.specs.Powers.{HaveNoneTo}
use Rattle.bend_finder.proofs.LowTerms.{none-walls, more-walls}
use Rattle.bend_finder.proofs.turns.has_term.Goals as goal

pub loop-w-init : goal.loop-w-init
loop-w-init c = none-walls c.args.most

pub loop-w-preserved : goal.loop-w-preserved
loop-w-preserved c = more-walls c.args.most c.args.walls.now c.loop-w.w-index c.w-item.result c.loop-w-test.true c.w-item.is c.loop-w.invariant (c.begins_by.ensures c.if-begins_by.false)

pub returns : goal.returns
returns c = λ f. subst (λ (ws : List CodeWall). HaveNoneTo c.args.most (walls_of ws)) (take_all c.loop-w.w-index c.args.walls.now c.loop-w-test.false) c.loop-w.invariant
