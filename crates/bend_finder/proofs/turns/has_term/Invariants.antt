use Rattle.std.proofs.Common.{take}
use Rattle.scatter_diagram.specs.Shown.{walls_of}
use Rattle.bend_finder.specs.Powers.{HaveNoneTo}
use Rattle.bend_finder.proofs.turns.has_term.Given as goal

abbrev pub invariant-loop-w : goal.invariant-loop-w
invariant-loop-w l = HaveNoneTo l.most (walls_of (take l.w-index l.walls))
