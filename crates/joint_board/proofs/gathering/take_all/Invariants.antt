use Rattle.std.proofs.Common.{◌≡◌, ◌++◌, All, map, IsSome, Some}
use Rattle.joint_board.proofs.gathering.take_all.Given as goal

abbrev pub invariant-loop-slot : goal.invariant-loop-slot
invariant-loop-slot g l = record {
  some : All IsSome l.slot-iterator.rest.items;
  taken : map Some l.results.items ++ l.slot-iterator.rest.items ≡ l.fn.slots.items;
}
