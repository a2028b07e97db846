use Rattle.std.proofs.Common.{◌≡◌, length}
use Rattle.weight_bounds.specs.Rows.{IsSlow}
use Rattle.weight_bounds.proofs.Terms.{AreReached}
use Rattle.weight_bounds.proofs.table.reach_of.Given as goal

abbrev pub invariant-loop-t : goal.invariant-loop-t
invariant-loop-t l = record {
  length : length l.reach ≡ 25;
  slow : IsSlow l.reach;
  reached : AreReached l.order l.reach l.t-index l.terms;
}
