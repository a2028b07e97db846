use Rattle.std.proofs.Common.{sym, subst}
use Rattle.scattering.specs.Collections.{Every}
use Rattle.scattering.specs.Wall.{walls}
use Rattle.scatter_diagram.specs.Listed.{AreOfOrder}
use Rattle.bend_finder.specs.Live.{live_cut}
use Rattle.bend_finder.specs.Runs.{LiveRun, AreOneLines, AreLiveRunsOf}
use Rattle.bend_finder.proofs.Lines.{run-lines}
use Rattle.bend_finder.proofs.live_walls.LiveWalls.candidates.Goals as goal

pub candidates_ahead-requires : goal.candidates_ahead-requires
candidates_ahead-requires c = let f = c.self.inside in subst AreOneLines (sym c.as_slice.ensures.value) (run-lines (live_cut f.limit (walls f.diagram.now.diagram)) f.runs.items c.self.invariant.runs)

pub returns-clause-marks : goal.returns-clause-marks
returns-clause-marks c =
    let f = c.self.inside in
    let ls = live_cut f.limit (walls f.diagram.now.diagram) in
    rw (← c.self.view_is) (c.candidates_ahead.ensures.marks ls (subst (AreLiveRunsOf ls) (sym c.as_slice.ensures.value) c.self.invariant.runs))

pub returns-clause-order : goal.returns-clause-order
returns-clause-order c =
    let f = c.self.inside in
    rw (← c.self.view_is) (c.candidates_ahead.ensures.order f.limit (subst (Every (λ (r : LiveRun). AreOfOrder f.limit r.items)) (sym c.as_slice.ensures.value) c.self.invariant.order))

pub returns-clause-live : goal.returns-clause-live
returns-clause-live c = rw (← c.self.view_is) c.self.invariant.runs.live
