use Rattle.std.proofs.Common.{◌≡◌, length}
use Rattle.session_readers.specs.Seats.{AreNewSeats}
use Rattle.session_readers.proofs.readers.seat_all.Given as goal

abbrev pub invariant-loop-reader : goal.invariant-loop-reader
invariant-loop-reader l = record {
  number : l.number ≡ length l.yielded;
  seats : AreNewSeats l.yielded l.seats.items;
}
