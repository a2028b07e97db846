use Rattle.std.proofs.Common.{◌≡◌, ◌++◌, drop}
use Rattle.plane_geom.specs.Shown.{point_of}
use Rattle.trunc_series.specs.Shown.{sum_of}
use Rattle.bend_finder.specs.Ahead.{bends_of}
use Rattle.bend_finder.specs.Bends.{bends_among, told_bends}
use Rattle.bend_finder.proofs.turns.add_bends.Given as goal

abbrev pub invariant-loop-t : goal.invariant-loop-t
invariant-loop-t l =
    bends_of l.bends.items ++ bends_among (point_of l.at) l.power.terms (sum_of (drop l.t-index l.terms)) ≡ bends_of l.initial.bends.items ++ told_bends (point_of l.at) l.power.terms
