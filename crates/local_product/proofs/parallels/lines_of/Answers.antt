use Rattle.std.proofs.Common.{◌<◌, length, arith}
use Rattle.scattering.specs.SupportingLine.{runs}
use Rattle.scattering.specs.Wall.{walls}
use Rattle.local_product.proofs.LineClasses.{lines-more}
use Rattle.local_product.proofs.parallels.lines_of.Goals as goal

pub loop-run-preserved : goal.loop-run-preserved
loop-run-preserved c =
    let gs = runs (walls c.args.e.now.diagram) in
    let l : c.loop-run.run < length gs = let t = c.loop-run-test.true in let e = c.run_count-run-end.ensures.count in omega (arith, t, e) in
    lines-more gs c.loop-run.lines.items c.push.new.self.items c.loop-run.run c.along.result.now c.index-along-0.result c.of_wall.result l c.along.ensures.walls c.along.ensures.some c.index-along-0.is c.of_wall.ensures c.in_ok-push.ensures.items c.loop-run.invariant
