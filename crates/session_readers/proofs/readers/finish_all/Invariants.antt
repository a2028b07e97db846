use Rattle.std.specs.List.{AllZip}
use Rattle.session_readers.specs.Seats.{IsFinished}
use Rattle.session_readers.proofs.readers.finish_all.Given as goal

abbrev pub invariant-loop-seat : goal.invariant-loop-seat
invariant-loop-seat g l = AllZip (IsFinished l.asks) l.yielded l.finished.items
