use Rattle.std.proofs.Common.{◌<◌}
use Rattle.local_product.specs.RunLines.{Rise, AreParallels}
use Rattle.local_product.proofs.parallels.ends_of.Given as goal

abbrev pub invariant-loop-i : goal.invariant-loop-i
invariant-loop-i l = record {
  begin : l.begin < l.i;
  rise : Rise l.begin l.i l.lines;
  classes : AreParallels l.lines 0 l.ends.items l.begin;
}
