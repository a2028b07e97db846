use Rattle.std.proofs.Common.{◌≡◌, ◌≤◌, replicate}
use Rattle.order_epochs.proofs.epochs.seat_readers.Given as goal

abbrev pub invariant-loop : goal.invariant-loop
invariant-loop l = (l.epochs ≡ l.fn.epochs) × (l.counter ≤ l.readers) × (l.seated.items ≡ replicate l.counter l.fn.epochs)
