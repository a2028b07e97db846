use Rattle.std.proofs.Common.{◌≡◌, take}
use Rattle.scattering.specs.Collections.{Every}
use Rattle.scattering.specs.Wall.{Line, Wall, cut_walls}
use Rattle.scatter_diagram.specs.Shown.{walls_of}
use Rattle.scatter_diagram.specs.Listed.{AreOfOrder}
use Rattle.scatter_diagram.proofs.diagram.Diagram.cut_lines.Given as goal

abbrev pub invariant-loop-i : goal.invariant-loop-i
invariant-loop-i l = record {
  walls : walls_of l.out.items ≡ cut_walls l.order (take l.i l.self.diagram.initial);
  order : AreOfOrder l.order l.out.items;
  lines : Every (λ (w : Wall). w.kind ≡ Line) (walls_of l.out.items);
}
