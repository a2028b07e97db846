use Rattle.std.proofs.Common.{◌≡◌, take}
use Rattle.std.specs.Prelude.{filter}
use Rattle.scattering.specs.Collections.{Every}
use Rattle.scattering.specs.Wall.{Outgoing, Wall, cut_walls, is_live}
use Rattle.scatter_diagram.specs.Shown.{walls_of}
use Rattle.scatter_diagram.specs.Listed.{AreOfOrder}
use Rattle.scatter_diagram.proofs.diagram.Diagram.live_rays.Given as goal

abbrev pub invariant-loop-i : goal.invariant-loop-i
invariant-loop-i l = record {
  walls : walls_of l.out.items ≡ filter is_live (cut_walls l.order (take l.i l.self.diagram.rays));
  order : AreOfOrder l.order l.out.items;
  outgoing : Every (λ (w : Wall). w.kind ≡ Outgoing) (walls_of l.out.items);
}
