use Rattle.scattering.specs.Wall.{walls, cut_walls}
use Rattle.broken_lines.proofs.Levels.{IsReachedTo}
use Rattle.broken_lines.proofs.reaching.reach_map.Given as goal

abbrev pub invariant-loop-lower : goal.invariant-loop-lower
invariant-loop-lower l = IsReachedTo (cut_walls l.limit (walls l.e.diagram)) l.lower l.known l.levels.items l.steps.items
