use Rattle.std.proofs.Common.{◌≡◌, vec_len}
use Rattle.session_readers.specs.Seats.{IsContinued}
use Rattle.session_readers.proofs.seat.answer_up_to.Given as goal

abbrev pub invariant-loop-i : goal.invariant-loop-i
invariant-loop-i g l = record {
  length : vec_len l.seat.answers ≡ l.i;
  continued : IsContinued l.asks l.to l.fn.seat l.seat;
}
