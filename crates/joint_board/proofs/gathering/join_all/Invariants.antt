use Rattle.std.proofs.Common.{◌≡◌, ◌++◌, ℕ, All, length}
use Rattle.joint_board.specs.Seen.{results_of}
use Rattle.joint_board.specs.Rule.{IsViewAt, shown_board}
use Rattle.joint_board.specs.Gathering.{placed, drawn_of, IsWhole, AreSeatsFrom, HasJoined}
use Rattle.joint_board.proofs.gathering.join_all.Given as goal

abbrev pub invariant-loop-other : goal.invariant-loop-other
invariant-loop-other g l = record {
  next : ℕ;
  table : IsViewAt l.table.shared.table_id l.first.table_id l.first.me;
  joined : HasJoined (shown_board l.table.shared.table_id l.table.shared.key) next l.first.me.0;
  others : AreSeatsFrom (shown_board l.table.shared.table_id l.table.shared.key) next l.others.items;
  tasks : length l.slots.items ≡ l.table.shared.key.tasks;
  drawn : l.first.me.0.drawn ++ drawn_of l.others.items ≡ l.fn.first.me.0.drawn ++ drawn_of l.fn.others.items;
  whole : All IsWhole l.others.items → All IsWhole l.fn.others.items;
  slots : placed (results_of l.others.items) l.slots.items ≡ placed (results_of l.fn.others.items) l.fn.slots.items;
}

abbrev pub decreases-loop-other : goal.decreases-loop-other
decreases-loop-other g l = length l.others.items
