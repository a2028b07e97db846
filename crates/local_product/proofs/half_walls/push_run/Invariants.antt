use Rattle.std.proofs.Common.{◌≡◌, ℕ, ◌++◌, take}
use Rattle.std.specs.List.{flat_map}
use Rattle.scattering.specs.Collections.{Every}
use Rattle.plane_geom.specs.Shown.{point_of}
use Rattle.local_product.specs.Shown.{halves_of}
use Rattle.local_product.specs.Tabled.{HasTables, HalvesHaveTables}
use Rattle.local_product.proofs.Local.{wall_halves}
use Rattle.local_product.proofs.half_walls.push_run.Given as goal

abbrev pub invariant-loop-w : goal.invariant-loop-w
invariant-loop-w l = record {
  halves : halves_of l.out.items ≡ halves_of l.initial.out.items ++ flat_map (wall_halves (point_of l.p)) (take l.w-index l.run);
  tables : (n : ℕ) → Every (HasTables n) l.run → HalvesHaveTables n l.initial.out.items → HalvesHaveTables n l.out.items;
}
