use Rattle.std.proofs.Common.{◌≡◌, ℕ}
use Rattle.scattering.specs.Series.{Sum}
use Rattle.scattering.specs.Wall.{walls}
use Rattle.plane_geom.specs.Shown.{point_of}
use Rattle.theta_algebra.specs.Steps.{IsAtStage}
use Rattle.theta_algebra.specs.KeptThetas.{AreKeptThetas}
use Rattle.theta_algebra.proofs.product.run.Given as goal

abbrev pub invariant-loop-d : goal.invariant-loop-d
invariant-loop-d l =
    ((s : Sum) (first : ℕ) → IsAtStage (walls l.fn.tracers.diagram) l.fn.limit (point_of l.fn.at) s first 0 l.fn.begun
    → IsAtStage (walls l.fn.tracers.diagram) l.fn.limit (point_of l.fn.at) s first l.d l.steps)
    × AreKeptThetas (walls l.fn.tracers.diagram) (point_of l.fn.at) l.thetas
    × (l.tracers ≡ l.fn.tracers)
