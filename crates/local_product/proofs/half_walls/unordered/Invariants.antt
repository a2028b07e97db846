use Rattle.std.proofs.Common.{◌≡◌, length, take, drop}
use Rattle.std.specs.List.{flat_map}
use Rattle.plane_geom.specs.Shown.{point_of}
use Rattle.local_product.specs.Shown.{halves_of}
use Rattle.local_product.specs.RunLines.{AreParallels}
use Rattle.local_product.specs.Tabled.{HalvesHaveTables}
use Rattle.local_product.proofs.Local.{run_halves}
use Rattle.local_product.proofs.half_walls.unordered.Given as goal

abbrev pub invariant-loop-i : goal.invariant-loop-i
invariant-loop-i l = record {
  halves : halves_of l.out.items ≡ flat_map (run_halves (point_of l.p)) (take l.begin l.runs);
  classes : AreParallels l.lines l.begin (drop l.i l.ends) (length l.lines);
  tables : HalvesHaveTables l.tables.order l.out.items;
}
