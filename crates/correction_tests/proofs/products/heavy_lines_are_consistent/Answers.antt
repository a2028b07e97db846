use Rattle.std.proofs.Common.{◌++◌, ap, refl}
use Rattle.scattering.specs.Wall.{walls}
use Rattle.plane_geom.specs.Shown.{point_of}
use Rattle.scatter_diagram.specs.Listed.{SeenDiagram}
use Rattle.correction_tests.specs.LocalWalls.{middle, heavy_lines, heavy_rays}
use Rattle.correction_tests.proofs.Consistency.{consistent-from, consistent-before}
use Rattle.correction_tests.proofs.products.heavy_lines_are_consistent.Goals as goal

pub obstruction_at-requires-clause-consistent : goal.obstruction_at-requires-clause-consistent
obstruction_at-requires-clause-consistent c = consistent-before (heavy_lines ++ heavy_rays) middle 2 (consistent-from (heavy_lines ++ heavy_rays) middle 2 refl) (walls c.in_ok-e.e.diagram) (ap (λ (s : SeenDiagram). walls s.diagram) c.in_ok-e.ensures) (point_of c.origin.result) c.origin.ensures 3 refl
