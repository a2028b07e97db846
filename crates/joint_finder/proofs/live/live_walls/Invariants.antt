use Rattle.std.proofs.Common.{◌≡◌, take, false}
use Rattle.std.specs.List.{flat_map}
use Rattle.scattering.specs.Collections.{Every}
use Rattle.scattering.specs.Wall.{Wall, walls}
use Rattle.scattering.specs.ActivePoint.{is_incoming}
use Rattle.scattering.specs.SupportingLine.{runs}
use Rattle.joint_finder.specs.Live.{AreLive}
use Rattle.joint_finder.proofs.live.live_walls.Given as goal

abbrev pub invariant-loop-run : goal.invariant-loop-run
invariant-loop-run l = record {
  seen : AreLive l.live.items (flat_map (λ g. g) (take l.run (runs (walls l.e.diagram))));
  kinds : Every (λ (w : Wall). is_incoming w.kind ≡ false) (flat_map (λ g. g) (take l.run (runs (walls l.e.diagram))));
}
