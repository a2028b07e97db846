use Rattle.std.proofs.Common.{◌-◌, drop, length}
use Rattle.scattering.specs.BrokenLine.{product}
use Rattle.plane_geom.specs.Shown.{point_of}
use Rattle.trunc_series.specs.Shown.{IsSeriesOf}
use Rattle.scatter_diagram.specs.Shown.{walls_of}
use Rattle.bend_finder.specs.Powers.{series_on}
use Rattle.bend_finder.proofs.series_powers.series_product.Given as goal

abbrev pub invariant-loop-i : goal.invariant-loop-i
invariant-loop-i l = IsSeriesOf l.product l.most (product l.most (series_on (walls_of (drop (length l.walls - l.i) l.walls)) (point_of l.q)))
