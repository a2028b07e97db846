use Rattle.std.proofs.Common.{◌≡◌, vec_len}
use Rattle.session_readers.specs.Gathered.{AreSameFrom, AreGathered}
use Rattle.session_readers.proofs.gathering.gather.Given as goal

abbrev pub invariant-loop-i : goal.invariant-loop-i
invariant-loop-i l = record {
  same : AreSameFrom l.i l.fn.seats.items l.seats.items;
  length : vec_len l.answers ≡ l.i;
  answers : AreGathered l.last.initial l.last.order l.fn.seats.items l.asks l.answers.items;
}
