use Rattle.std.proofs.Common.{take}
use Rattle.std.specs.List.{flat_map}
use Rattle.scattering.specs.Collections.{In, Every}
use Rattle.scattering.specs.SupportingLine.{runs}
use Rattle.scattering.specs.Wall.{Wall, walls}
use Rattle.scatter_diagram.specs.Shown.{walls_of}
use Rattle.scatter_diagram.specs.Listed.{AreOfOrder}
use Rattle.bend_finder.specs.Live.{live_cut}
use Rattle.bend_finder.specs.Runs.{IsRunOf, all_walls}
use Rattle.bend_finder.proofs.live.live_runs.Given as goal

abbrev pub invariant-loop-i : goal.invariant-loop-i
invariant-loop-i l = record {
  each : Every (λ r. IsRunOf (live_cut l.most (walls l.e.diagram)) (walls_of r.items)) l.runs.items;
  all : (w : Wall) → In w (live_cut l.most (flat_map (λ g. g) (take l.i (runs (walls l.e.diagram))))) → In w (all_walls l.runs.items);
  order : Every (λ r. AreOfOrder l.most r.items) l.runs.items;
}
