use Rattle.std.proofs.Common.{sym, subst}
use Rattle.scattering.specs.Wall.{walls}
use Rattle.bend_finder.specs.Live.{live_cut}
use Rattle.bend_finder.specs.Runs.{AreOneLines}
use Rattle.bend_finder.proofs.Lines.{run-lines}
use Rattle.bend_finder.proofs.live_walls.LiveWalls.on_plain.Goals as goal

pub plain_run-requires : goal.plain_run-requires
plain_run-requires c = let f = c.self.inside in subst AreOneLines (sym c.as_slice.ensures.value) (run-lines (live_cut f.limit (walls f.diagram.now.diagram)) f.runs.items c.self.invariant.runs)
