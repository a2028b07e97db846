use Rattle.std.proofs.Common.{take}
use Rattle.scattering.specs.SupportingLine.{runs}
use Rattle.scattering.specs.Wall.{walls}
use Rattle.local_product.specs.RunLines.{AreLinesOf}
use Rattle.local_product.proofs.parallels.lines_of.Given as goal

abbrev pub invariant-loop-run : goal.invariant-loop-run
invariant-loop-run l = AreLinesOf (take l.run (runs (walls l.e.diagram))) l.lines.items
