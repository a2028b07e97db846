use Rattle.std.proofs.Common.{take}
use Rattle.plane_geom.specs.Shown.{point_of}
use Rattle.bend_finder.specs.Runs.{OnSome, all_walls}
use Rattle.bend_finder.proofs.spots.is_on_run.Given as goal

abbrev pub invariant-loop-run : goal.invariant-loop-run
invariant-loop-run l = OnSome (all_walls (take l.run-index l.runs)) (point_of l.p) → ⊥
