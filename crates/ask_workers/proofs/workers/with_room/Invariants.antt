use Rattle.std.proofs.Common.{◌≡◌, [], map}
use Rattle.std.specs.Prelude.{All}
use Rattle.ask_workers.proofs.workers.with_room.Given as goal

abbrev pub invariant-loop-seat : goal.invariant-loop-seat
invariant-loop-seat l = record {
  seats : map (λ p. p.seat) l.places.items ≡ l.yielded;
  room : All (λ p. p.answers.items ≡ []) l.places.items;
}
