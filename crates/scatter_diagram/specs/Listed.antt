-- What lists of initial walls and of rays keep, and what contracts see of initial walls and of a diagram.
--     AreLines n ws            lines with functions of order n
--     AreRays n ws             outgoing rays with functions of order n, reduced
--     AreSeenRays n rays       outgoing rays of order n, reduced
--     SeenInitial              the number of variables and the lines
--     SeenDiagram              the order, the lines and the rays
use Rattle.std.specs.Prelude.{◌≡◌, ℕ, ◌≤◌, List, length}
use Rattle.limits.specs.Limits.{highest_order, most_lines, most_variables}
use Rattle.scattering.specs.Collections.{Every}
use Rattle.scattering.specs.Wall.{Line, Outgoing, Wall, Diagram, IsWall}
use Rattle.scattering.specs.Completion.{IsReduced, lowered}
use Rattle.scatter_diagram.specs.declared.wall.Wall.{Wall as CodeWall}
use Rattle.scatter_diagram.specs.Shown.{walls_of}

abbrev pub AreOfOrder : ℕ → List CodeWall → Type 0
AreOfOrder n ws = Every (λ w. w.function.order ≡ n) ws

pub record AreLines (n : ℕ) (ws : List CodeWall) : Type 0 where
  pub order : AreOfOrder n ws
  pub lines : Every (λ w. w.kind ≡ Line) (walls_of ws)

pub record AreRays (n : ℕ) (ws : List CodeWall) : Type 0 where
  pub order : AreOfOrder n ws
  pub outgoing : Every (λ r. r.kind ≡ Outgoing) (walls_of ws)
  pub reduced : IsReduced (walls_of ws)

-- rays of a diagram of order n, as contracts see them
pub record AreSeenRays (n : ℕ) (rays : List Wall) : Type 0 where
  pub proper : Every (IsWall n) rays
  pub outgoing : Every (λ r. r.kind ≡ Outgoing) rays
  pub reduced : IsReduced rays

-- what initial walls keep
pub record IsInitialList (vars : ℕ) (ws : List CodeWall) : Type 0 where
  pub some_vars : 1 ≤ vars
  pub few_vars : vars ≤ most_variables
  pub few_lines : length ws ≤ most_lines
  pub lines : AreLines highest_order ws

-- what contracts see of initial walls
pub record SeenInitial : Type 0 where
  pub vars : ℕ
  pub lines : List Wall

-- what contracts see of a diagram
pub record SeenDiagram : Type 0 where
  pub order : ℕ
  pub diagram : Diagram

abbrev pub seen_diagram : ℕ → List CodeWall → List CodeWall → SeenDiagram
seen_diagram n ls rs = record { order = n; diagram = record { initial = walls_of ls; rays = walls_of rs } }

abbrev pub lowered_to : ℕ → SeenDiagram → SeenDiagram
lowered_to n e = record { order = n; diagram = lowered n e.diagram }
