use Rattle.std.proofs.Common.{ap, refl}
use Rattle.scattering.specs.Wall.{walls}
use Rattle.plane_geom.specs.Shown.{point_of}
use Rattle.scatter_diagram.specs.Listed.{SeenDiagram}
use Rattle.correction_tests.specs.LocalWalls.{middle, plain_lines}
use Rattle.correction_tests.proofs.Consistency.{consistent-from, consistent-before}
use Rattle.correction_tests.proofs.products.corrects.Goals as goal

pub obstruction_at-requires-clause-consistent : goal.obstruction_at-requires-clause-consistent
obstruction_at-requires-clause-consistent c = consistent-before plain_lines middle 1 (consistent-from plain_lines middle 1 refl) (walls c.in_ok-e.e.diagram) (ap (λ (s : SeenDiagram). walls s.diagram) c.in_ok-e.ensures) (point_of c.origin.result) c.origin.ensures 2 refl
