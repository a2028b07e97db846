use Rattle.std.proofs.Common.{◌++◌, ap, refl}
use Rattle.scattering.specs.Wall.{walls}
use Rattle.plane_geom.specs.Shown.{point_of}
use Rattle.scatter_diagram.specs.Listed.{SeenDiagram}
use Rattle.correction_tests.specs.LocalWalls.{middle, heavy_lines, heavy_rays}
use Rattle.correction_tests.proofs.Consistency.{consistent-from, consistent-before}
use Rattle.correction_tests.proofs.products.heavy_lines_stop.Goals as goal

pub obstruction_at-heavy-requires-clause-consistent : goal.obstruction_at-heavy-requires-clause-consistent
obstruction_at-heavy-requires-clause-consistent c = consistent-before (heavy_lines ++ heavy_rays) middle 3 (consistent-from (heavy_lines ++ heavy_rays) middle 3 refl) (walls c.in_ok-e.e.diagram) (ap (λ (s : SeenDiagram). walls s.diagram) c.in_ok-e.ensures) (point_of c.origin-2.result) c.origin-2.ensures 4 refl
