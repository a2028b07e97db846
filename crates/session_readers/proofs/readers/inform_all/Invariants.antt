use Rattle.std.specs.List.{AllZip}
use Rattle.session_readers.specs.Seats.{IsInformed}
use Rattle.session_readers.proofs.readers.inform_all.Given as goal

abbrev pub invariant-loop-seat : goal.invariant-loop-seat
invariant-loop-seat l = AllZip (IsInformed l.epochs.order) l.yielded l.informed.items
