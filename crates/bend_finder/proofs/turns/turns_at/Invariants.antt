use Rattle.std.proofs.Common.{◌-◌, length, List}
use Rattle.scattering.specs.Wall.{Wall}
use Rattle.trunc_series.specs.Shown.{exp_of}
use Rattle.bend_finder.specs.Ahead.{bends_of}
use Rattle.bend_finder.specs.Marks.{AreReadyMarks}
use Rattle.bend_finder.proofs.SortedMarks.{AreTurned}
use Rattle.bend_finder.proofs.turns.turns_at.Given as goal

abbrev pub invariant-loop-start : goal.invariant-loop-start
invariant-loop-start l =
    (ls : List Wall) → AreReadyMarks ls l.fn.kept l.found.along.items l.found.marks.items → AreTurned l.most ls (exp_of l.x) l.found.marks.items l.start (bends_of l.turns.bends.items) l.turns.special l.kept

abbrev pub decreases-loop-start : goal.decreases-loop-start
decreases-loop-start l = length l.marks - l.start
