use Rattle.std.proofs.Common.{◌-◌, ◌≤◌}
use Rattle.local_product.specs.RunLines.{AreBefore, AreNotBefore}
use Rattle.local_product.proofs.parallels.first_from.Given as goal

abbrev pub invariant-bisect : goal.invariant-bisect
invariant-bisect l = record {
  low : l.fn.begin ≤ l.low;
  high : l.low ≤ l.high;
  end : l.high ≤ l.fn.end;
  before : AreBefore l.fn.begin l.low l.line l.lines;
  others : AreNotBefore l.high l.fn.end l.line l.lines;
}

abbrev pub decreases-bisect : goal.decreases-bisect
decreases-bisect l = l.high - l.low
