use Rattle.std.proofs.Common.{sym, subst, List}
use Rattle.std.specs.Prelude.{◌↔◌, IsTrue}
use Rattle.scattering.specs.Wall.{walls}
use Rattle.plane_geom.specs.Shown.{point_of}
use Rattle.bend_finder.specs.Live.{live_cut}
use Rattle.bend_finder.specs.Runs.{LiveRun, AreOneLines, OnSome, all_walls}
use Rattle.bend_finder.proofs.Lines.{run-lines}
use Rattle.bend_finder.proofs.Found.{on-live}
use Rattle.bend_finder.proofs.live_walls.LiveWalls.is_on.Goals as goal

pub is_on_run-requires : goal.is_on_run-requires
is_on_run-requires c = let f = c.self.inside in subst AreOneLines (sym c.as_slice.ensures.value) (run-lines (live_cut f.limit (walls f.diagram.now.diagram)) f.runs.items c.self.invariant.runs)

pub returns : goal.returns
returns c =
    let f = c.self.inside in
    let q = point_of c.args.p.now in
    rw (← c.self.view_is)
    (on-live f.limit (walls f.diagram.now.diagram) f.runs.items c.self.invariant.runs q c.is_on_run.result
    (subst (λ (rs : List LiveRun). IsTrue c.is_on_run.result ↔ OnSome (all_walls rs) q) c.as_slice.ensures.value c.is_on_run.ensures))
