use Rattle.std.proofs.Common.{◌≡◌, ◌++◌, take}
use Rattle.scatter_diagram.specs.Shown.{walls_of}
use Rattle.scatter_diagram.specs.Listed.{AreOfOrder}
use Rattle.bend_finder.specs.Live.{live_cut}
use Rattle.bend_finder.proofs.live.live_walls.Given as goal

abbrev pub invariant-loop-i : goal.invariant-loop-i
invariant-loop-i l = record {
  walls : walls_of l.live.items ≡ live_cut l.limit (take l.i l.e.diagram.initial);
  order : AreOfOrder l.limit l.live.items;
}

abbrev pub invariant-loop-i-2 : goal.invariant-loop-i-2
invariant-loop-i-2 l = record {
  walls : walls_of l.live.items ≡ live_cut l.limit (l.e.diagram.initial ++ take l.i l.e.diagram.rays);
  order : AreOfOrder l.limit l.live.items;
}
