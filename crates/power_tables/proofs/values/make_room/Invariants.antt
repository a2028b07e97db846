use Rattle.std.proofs.Common.{◌≡◌, ◌-◌, ℕ, [], map, length, slice_index_or}
use Rattle.power_tables.specs.Kept.{numbers_of}
use Rattle.power_tables.proofs.values.make_room.Given as goal

abbrev pub invariant-grow : goal.invariant-grow
invariant-grow l = (j : ℕ) → slice_index_or (map numbers_of l.values.items) j [] ≡ slice_index_or (map numbers_of l.fn.values.items) j []

abbrev pub decreases-grow : goal.decreases-grow
decreases-grow l = l.count - length l.values.items
