-- What is proved here of merging corrections into rays.
use Rattle.std.specs.Prelude.{◌≡◌, ℕ, ◌≤◌, List}
use Rattle.scattering.specs.Collections.{Every}
use Rattle.scattering.specs.Wall.{Outgoing, Wall, Diagram, IsWall}
use Rattle.scattering.specs.Completion.{IsReduced}
use Rattle.scattering.specs.Correction.{Corrections, IsMerged, AreMergeable}

-- any reduced outgoing rays, and corrections that can be merged at degree n, have a merged diagram
abbrev pub MergedDiagramExists : Type 0
MergedDiagramExists = (given : List Wall) (n : ℕ) (e : Diagram) (cs : Corrections) → 1 ≤ n → Every (λ r. r.kind ≡ Outgoing) e.rays → Every (IsWall n) e.rays → IsReduced e.rays
    → AreMergeable n cs → (e' : Diagram) × IsMerged given e cs n e'
