use Rattle.std.proofs.Common.{◌≡◌, ◌<◌, All, length}
use Rattle.joint_board.specs.Seen.{numbers_of}
use Rattle.joint_board.specs.Gathering.{placed}
use Rattle.joint_board.proofs.gathering.place.Given as goal

abbrev pub invariant-loop-number : goal.invariant-loop-number
invariant-loop-number g l = record {
  next : (goal.iterator-loop-number g).can_next l.number-iterator;
  finite : (goal.iterator-loop-number g).is_finite l.number-iterator;
  within : All (λ x. x < length l.slots.items) (numbers_of l.number-iterator.rest.items);
  placed : placed l.number-iterator.rest.items l.slots.items ≡ placed l.fn.results.items l.fn.slots.items;
}
