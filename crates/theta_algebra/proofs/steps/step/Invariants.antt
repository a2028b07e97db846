use Rattle.std.proofs.Common.{◌≡◌, ℕ}
use Rattle.scattering.specs.Series.{Sum}
use Rattle.scattering.specs.Wall.{walls}
use Rattle.plane_geom.specs.Shown.{point_of}
use Rattle.trunc_series.specs.Shown.{sum_of}
use Rattle.theta_algebra.specs.Steps.{IsAtStage}
use Rattle.theta_algebra.specs.KeptThetas.{AreKeptThetas}
use Rattle.theta_algebra.proofs.Stepping.{AreTaken}
use Rattle.theta_algebra.proofs.steps.step.Given as goal

abbrev pub invariant-loop-t : goal.invariant-loop-t
invariant-loop-t l =
    (sum_of l.steps.family.items ≡ sum_of l.initial.steps.family.items)
    × ((s : Sum) (first : ℕ) → IsAtStage (walls l.fn.tracers.diagram) l.fn.limit (point_of l.fn.at) s first l.fn.d l.fn.before
    → AreTaken l.fn.tracers l.fn.limit l.fn.at l.fn.before l.t-items l.initial.steps.family.items s l.t-index l.steps)
    × AreKeptThetas (walls l.fn.tracers.diagram) (point_of l.fn.at) l.thetas
    × (l.tracers ≡ l.fn.tracers)
