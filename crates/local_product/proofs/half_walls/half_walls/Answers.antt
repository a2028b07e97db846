use Rattle.std.proofs.Common.{◌∙◌}
use Rattle.scattering.specs.Wall.{walls}
use Rattle.scattering.specs.SupportingLine.{by_line}
use Rattle.plane_geom.specs.Shown.{point_of}
use Rattle.local_product.proofs.Local.{by-angle}
use Rattle.local_product.proofs.Sides.{sorted-halves, sorted-tables}
use Rattle.local_product.proofs.half_walls.half_walls.Goals as goal

pub returns-clause-halves : goal.returns-clause-halves
returns-clause-halves c =
    sorted-halves c.unordered.new.out.items c.arrange.new.halves.items c.in_ok-arrange.ensures (by_line (walls c.args.tables.now.diagram.diagram)) (point_of c.args.p.now) c.in_ok-unordered.ensures.halves
    ∙ by-angle c.args.tables.now.diagram (point_of c.args.p.now) c.args.p.now.reduced.below c.in_ok-unordered.ensures.proper

pub returns-clause-tables : goal.returns-clause-tables
returns-clause-tables c = sorted-tables c.unordered.new.out.items c.arrange.new.halves.items c.in_ok-arrange.ensures c.args.tables.now.order c.in_ok-unordered.ensures.tables
