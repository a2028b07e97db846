-- The tasks of the order after a completion, and what the workers find at them.
--     diagram_of c            the diagram whose active points they are
--     IsCorrected e n ps r        r is a task, its point and the correction of degree n there, a point of a weight of at most 2^126
--     IsFoundBy e n ps s r    r is what the worker of the seat s found, or what stopped it
use Rattle.std.specs.Prelude.{◌≡◌, ℕ, ◌≤◌, List, All, IfOk, IfErr, Result, Some, slice_get}
use Rattle.std.specs.List.{AllZip}
use Rattle.limits.specs.Limits.{largest_weight}
use Rattle.scattering.specs.Wall.{walls}
use Rattle.scattering.specs.LocalProduct.{weight}
use Rattle.scattering.specs.Correction.{Lie, IsCorrection}
use Rattle.plane_geom.specs.declared.Point.{Point as CodePoint}
use Rattle.plane_geom.specs.Shown.{point_of}
use Rattle.scatter_diagram.specs.Listed.{SeenDiagram}
use Rattle.scatter_diagram.specs.declared.stop.Stop.{Stop}
use Rattle.scatter_step.specs.Completed.{SeenCompleted}
use Rattle.scatter_step.specs.Orders.{IsStoppedByPoint}
use Rattle.joint_board.specs.Seen.{SeenSeat, SeenKept}

abbrev pub diagram_of : SeenCompleted → SeenDiagram
diagram_of c = record { order = c.order; diagram = c.diagram }

-- a point with its correction
abbrev pub Corrected : Type 0
Corrected = CodePoint × Lie

pub record IsCorrected (e : SeenDiagram) (n : ℕ) (ps : List CodePoint) (r : ℕ × Corrected) : Type 0 where
  pub task : slice_get ps r.0 ≡ Some r.1.0
  pub correction : IsCorrection (walls e.diagram) (point_of r.1.0) n r.1.1
  pub light : weight (walls e.diagram) (point_of r.1.0) n ≤ largest_weight

pub record AreFoundBy (e : SeenDiagram) (n : ℕ) (ps : List CodePoint) (s : SeenSeat) (k : SeenKept Corrected) : Type 0 where
  pub board : k.seat.board ≡ s.board
  pub number : k.seat.number ≡ s.number
  pub results : All (IsCorrected e n ps) k.results

abbrev pub IsFoundBy : SeenDiagram → ℕ → List CodePoint → SeenSeat → Result (SeenKept Corrected) Stop → Type 0
IsFoundBy e n ps s r = IfOk r (AreFoundBy e n ps s) × IfErr r (IsStoppedByPoint e n ps)

-- of each seat
abbrev pub AreAllFound : SeenDiagram → ℕ → List CodePoint → List SeenSeat → List (Result (SeenKept Corrected) Stop) → Type 0
AreAllFound e n ps seats found = AllZip (IsFoundBy e n ps) seats found
