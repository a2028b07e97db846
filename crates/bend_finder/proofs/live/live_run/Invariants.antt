use Rattle.std.proofs.Common.{◌≡◌, take}
use Rattle.scatter_diagram.specs.Shown.{walls_of}
use Rattle.scatter_diagram.specs.Listed.{AreOfOrder}
use Rattle.bend_finder.specs.Live.{live_cut}
use Rattle.bend_finder.proofs.live.live_run.Given as goal

abbrev pub invariant-loop-w : goal.invariant-loop-w
invariant-loop-w l = record {
  walls : walls_of l.live.items ≡ live_cut l.limit (walls_of (take l.w-index l.walls));
  order : AreOfOrder l.limit l.live.items;
}
