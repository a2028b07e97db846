use Rattle.std.proofs.Common.{◌≡◌, ◌<◌, length, take}
use Rattle.scattering.specs.Collections.{Every}
use Rattle.scattering.specs.SupportingLine.{runs}
use Rattle.scattering.specs.Wall.{walls}
use Rattle.local_product.specs.Tabled.{HasTables, tabled_runs}
use Rattle.local_product.proofs.tables.runs_of.Given as goal

abbrev pub invariant-loop-run : goal.invariant-loop-run
invariant-loop-run l = record {
  walls : tabled_runs l.runs.items ≡ take l.run (runs (walls l.e.diagram));
  some : Every (λ r. 0 < length r.items) l.runs.items;
  tables : Every (λ r. Every (HasTables l.order) r.items) l.runs.items;
}
