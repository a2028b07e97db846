use Rattle.std.proofs.Common.{ap, refl}
use Rattle.scattering.specs.Wall.{walls}
use Rattle.plane_geom.specs.Shown.{point_of}
use Rattle.scatter_diagram.specs.Listed.{SeenDiagram}
use Rattle.correction_tests.specs.LocalWalls.{steep_point, steep_lines}
use Rattle.correction_tests.proofs.Consistency.{consistent-before, steep-consistent}
use Rattle.correction_tests.proofs.products.steep_lines_are_corrected.Goals as goal

pub obstruction_at-requires-clause-consistent : goal.obstruction_at-requires-clause-consistent
obstruction_at-requires-clause-consistent c = consistent-before steep_lines steep_point 1 steep-consistent (walls c.in_ok-e.e.diagram) (ap (λ (s : SeenDiagram). walls s.diagram) c.in_ok-e.ensures) (point_of c.meeting.result) c.meeting.ensures 2 refl
