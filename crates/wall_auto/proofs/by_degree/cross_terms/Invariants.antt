use Rattle.std.proofs.Common.{◌≡◌, length, take}
use Rattle.plane_geom.specs.Shown.{vector_of}
use Rattle.trunc_series.specs.Shown.{sum_of}
use Rattle.power_tables.specs.Values.{AreOf}
use Rattle.wall_auto.specs.Sign.{sign}
use Rattle.wall_auto.specs.ByDegree.{AreKept}
use Rattle.wall_auto.specs.Gains.{LowPartsStay, GainsTerms, KeepsGrowth}
use Rattle.wall_auto.proofs.by_degree.cross_terms.Given as goal

abbrev pub invariant-loop-t : goal.invariant-loop-t
invariant-loop-t l = record {
  order : length l.above ≡ length l.fn.above;
  low : LowPartsStay l.table l.fn.above l.above;
  gains : GainsTerms l.table (vector_of l.dir) (sign l.side) (sum_of (take l.t-index l.terms)) l.fn.above l.above;
  within : KeepsGrowth l.table (sum_of (take l.t-index l.terms)) l.fn.above l.above;
  kept : AreKept l.table.rule l.above;
  values : AreOf l.table l.values;
}
