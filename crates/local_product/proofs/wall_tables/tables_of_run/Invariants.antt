use Rattle.std.proofs.Common.{◌≡◌, take}
use Rattle.scattering.specs.Collections.{Every}
use Rattle.scatter_diagram.specs.Shown.{walls_of}
use Rattle.local_product.specs.Tabled.{HasTables, tabled_walls}
use Rattle.local_product.proofs.wall_tables.tables_of_run.Given as goal

abbrev pub invariant-loop-w : goal.invariant-loop-w
invariant-loop-w l = record {
  walls : tabled_walls l.out.items ≡ walls_of (take l.w-index l.walls);
  tables : Every (HasTables l.order) l.out.items;
}
