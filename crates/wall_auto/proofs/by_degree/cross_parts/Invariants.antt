use Rattle.std.proofs.Common.{◌≡◌, ◌≤◌, ◌<◌, ◌+◌, ◌-◌, ℕ, suc, length}
use Rattle.plane_geom.specs.Shown.{vector_of}
use Rattle.power_tables.specs.Values.{AreOf}
use Rattle.wall_auto.specs.Sign.{sign}
use Rattle.wall_auto.specs.ByDegree.{part, AreKept, CrossesWithin}
use Rattle.wall_auto.proofs.PartGains.{GainsFrom}
use Rattle.wall_auto.proofs.by_degree.cross_parts.Given as goal

abbrev pub invariant-loop-source : goal.invariant-loop-source
invariant-loop-source l = record {
  order : length l.parts ≡ length l.fn.parts;
  sources : l.source ≤ suc l.table.order - l.table.least;
  same : (e : ℕ) → e < l.source + l.table.least → part l.parts e ≡ part l.fn.parts e;
  gains : GainsFrom l.table (vector_of l.dir) (sign l.side) l.source l.fn.parts l.parts;
  within : CrossesWithin l.table l.fn.parts l.parts;
  kept : AreKept l.table.rule l.parts;
  values : AreOf l.table l.values;
}

abbrev pub decreases-loop-source : goal.decreases-loop-source
decreases-loop-source l = l.source
