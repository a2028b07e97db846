-- What one order after another gives.
--     IsNextCompletion c d   d is the completion of the same lines at the next order
--     AreAt ws n ps cs       cs are the corrections of degree n at the points ps, each of a weight of at most 2^126
--     AreTasks, AreNextCorrections     the points and corrections of the order after c
--     HasHeavy, HasManyWalls      a point of a greater weight;  a completion of more than 8192 walls
--     IsOutcome i k o        o has the completion of the last order up to k that isn't stopped, and what stops the one after
use Rattle.std.specs.Prelude.{◌≡◌, ℕ, ◌+◌, ◌<◌, ◌≤◌, Some, List, [], ◌∷◌, length}
use Rattle.limits.specs.Limits.{largest_weight, most_walls}
use Rattle.scattering.specs.Collections.{In, Every}
use Rattle.scattering.specs.Plane.{Point}
use Rattle.scattering.specs.Wall.{Wall, Diagram, walls}
use Rattle.scattering.specs.LocalProduct.{weight}
use Rattle.scattering.specs.Completion.{IsCompletion}
use Rattle.scattering.specs.Correction.{Lie, Corrections, IsCorrection, AreCorrections}
use Rattle.scattering.specs.Stops.{WeightTooLarge, TooManyWalls, IsStopAt, IsFirstStop, last_before}
use Rattle.plane_geom.specs.declared.Point.{Point as CodePoint}
use Rattle.scatter_diagram.specs.Listed.{SeenInitial, SeenDiagram}
use Rattle.scatter_diagram.specs.Stopped.{stop_of, IfStop}
use Rattle.scatter_diagram.specs.declared.stop.Stop.{Stop}
use Rattle.joint_finder.specs.Joints.{AreJoints, points_of}
use Rattle.ray_merge.specs.Additions.{corrections_of}
use Rattle.scatter_step.specs.Completed.{SeenCompleted}
use Rattle.scatter_step.specs.declared.complete.Outcome.{Outcome}

abbrev pub IsNextCompletion : SeenCompleted → SeenCompleted → Type 0
IsNextCompletion c d = (d.initial ≡ c.initial) × (d.order ≡ c.order + 1)

abbrev pub AreAt : List Wall → ℕ → List Point → Corrections → Type 0
AreAt ws n [] [] = Unit {0}
AreAt ws n [] (c ∷ cs) = ⊥
AreAt ws n (p ∷ ps) [] = ⊥
AreAt ws n (p ∷ ps) (c ∷ cs) = ((c.0 ≡ p) × IsCorrection ws p n c.1 × (weight ws p n ≤ largest_weight)) × AreAt ws n ps cs

-- a point of too much weight is among them
abbrev pub HasHeavy : List Wall → ℕ → List Point → Type 0
HasHeavy ws n ps = (p : Point) × In p ps × (largest_weight < weight ws p n)

-- the completion of order n has more than 8192 walls
abbrev pub HasManyWalls : List Wall → ℕ → Type 0
HasManyWalls given n = (e : Diagram) × IsCompletion given n e × (most_walls < length (walls e))

-- ---- the order after c, of the program's points and corrections

abbrev pub AreTasks : SeenCompleted → List CodePoint → Type 0
AreTasks c ps = AreJoints (c.order + 1) (walls c.diagram) (points_of ps)

abbrev pub AreNextCorrections : SeenCompleted → List (CodePoint × Lie) → Type 0
AreNextCorrections c cs = AreCorrections (walls c.diagram) (c.order + 1) (corrections_of cs)

-- none of their points is of too much weight
abbrev pub AreAtLightPoints : SeenCompleted → List (CodePoint × Lie) → Type 0
AreAtLightPoints c cs = Every (λ x. weight (walls c.diagram) x.0 (c.order + 1) ≤ largest_weight) (corrections_of cs)

-- only for memory, or for too many walls
abbrev pub IsStoppedByWalls : SeenCompleted → Stop → Type 0
IsStoppedByWalls c s = IfStop s (λ n cause. (n ≡ c.order + 1) × (cause ≡ TooManyWalls) × HasManyWalls c.initial.lines (c.order + 1))

-- only for memory, or for what stops the order
abbrev pub IsStoppedAfter : SeenCompleted → Stop → Type 0
IsStoppedAfter c s = IfStop s (λ n cause. (n ≡ c.order + 1) × IsStopAt c.initial.lines (c.order + 1) (Some cause))

-- ---- the corrections at some points of a diagram

abbrev pub AreCorrectionsAt : SeenDiagram → ℕ → List CodePoint → List (CodePoint × Lie) → Type 0
AreCorrectionsAt e n ps cs = AreAt (walls e.diagram) n (points_of ps) (corrections_of cs)

abbrev pub IsStoppedByPoint : SeenDiagram → ℕ → List CodePoint → Stop → Type 0
IsStoppedByPoint e order ps s = IfStop s (λ n cause. (n ≡ order) × (cause ≡ WeightTooLarge) × HasHeavy (walls e.diagram) order (points_of ps))

-- ---- outcomes

-- it is the only completion of its order
pub record IsOutcome (i : SeenInitial) (k : ℕ) (o : Outcome) : Type 0 where
  pub initial : o.last.initial ≡ i
  pub stop : IsFirstStop i.lines k (stop_of o.stop)
  pub order : o.last.order ≡ last_before k (stop_of o.stop)
  pub completes : IsCompletion i.lines o.last.order o.last.diagram
  pub only : (e : Diagram) → IsCompletion i.lines o.last.order e → e ≡ o.last.diagram
