use Rattle.std.proofs.Common.{◌-◌, drop, length}
use Rattle.scattering.specs.BrokenLine.{product}
use Rattle.plane_geom.specs.Shown.{point_of}
use Rattle.trunc_series.specs.Capped.{IsMajorantOf}
use Rattle.scatter_diagram.specs.Shown.{walls_of}
use Rattle.bend_finder.specs.Powers.{functions_on}
use Rattle.bend_finder.proofs.powers.product_on.Given as goal

abbrev pub invariant-loop-i : goal.invariant-loop-i
invariant-loop-i l = IsMajorantOf l.product l.most (product l.most (functions_on (walls_of (drop (length l.walls - l.i) l.walls)) (point_of l.q)))
