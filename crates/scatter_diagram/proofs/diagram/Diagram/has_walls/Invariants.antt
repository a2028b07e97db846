use Rattle.std.proofs.Common.{◌≡◌, take}
use Rattle.scattering.specs.Wall.{walls}
use Rattle.scatter_diagram.proofs.diagram.Diagram.has_walls.Given as goal

abbrev pub invariant-loop-i : goal.invariant-loop-i
invariant-loop-i l = take l.i (walls l.self.diagram) ≡ take l.i (walls l.other.diagram)
