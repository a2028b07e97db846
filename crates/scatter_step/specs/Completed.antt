-- What contracts see of a completion, and what each value keeps.
--     SeenCompleted          initial walls, and their completion at an order
--     IsCompleted c          c's diagram is the completion of its lines at its order, with at most 8192 walls
--     AreOwnJoints c ps      ps are the points of c's diagram that are active at its own order
use Rattle.std.specs.Prelude.{◌≡◌, ℕ, ◌≤◌, List, length}
use Rattle.limits.specs.Limits.{highest_order, most_walls}
use Rattle.scattering.specs.Collections.{Every}
use Rattle.scattering.specs.Wall.{Line, Diagram, IsWall, walls}
use Rattle.scattering.specs.Completion.{IsCompletion}
use Rattle.plane_geom.specs.declared.Point.{Point as CodePoint}
use Rattle.scatter_diagram.specs.Listed.{SeenInitial, SeenDiagram}
use Rattle.joint_finder.specs.Joints.{AreJoints, points_of}

pub record SeenCompleted : Type 0 where
  pub initial : SeenInitial
  pub order : ℕ
  pub diagram : Diagram

-- these lines with a diagram
abbrev pub with_lines : SeenInitial → SeenDiagram → SeenCompleted
with_lines i e = record { initial = i; order = e.order; diagram = e.diagram }

pub record IsCompleted (c : SeenCompleted) : Type 0 where
  pub order : c.order ≤ highest_order
  pub given : Every (IsWall highest_order) c.initial.lines
  pub lines : Every (λ w. w.kind ≡ Line) c.initial.lines
  pub completes : IsCompletion c.initial.lines c.order c.diagram
  pub few : length (walls c.diagram) ≤ most_walls

abbrev pub AreOwnJoints : SeenCompleted → List CodePoint → Type 0
AreOwnJoints c ps = AreJoints c.order (walls c.diagram) (points_of ps)

-- a completion, with these points
pub record KeepsItsPoints (c : SeenCompleted) (ps : List CodePoint) : Type 0 where
  pub completed : IsCompleted c
  pub points : AreOwnJoints c ps
