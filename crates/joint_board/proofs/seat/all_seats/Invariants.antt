use Rattle.std.proofs.Common.{◌≡◌, ◌-◌, ◌≤◌, [], map}
use Rattle.std.specs.List.{range_with_len}
use Rattle.joint_board.specs.Seen.{new_seat}
use Rattle.joint_board.specs.Rule.{shown_board, first_view}
use Rattle.joint_board.proofs.seat.all_seats.Given as goal

abbrev pub invariant-loop-number : goal.invariant-loop-number
invariant-loop-number l = record {
  table : l.first.table_id ≡ l.table.shared.table_id;
  first : l.first.id ≡ 0;
  view : l.first.me ≡ (record (first_view l.table.shared.key) { made = l.number }, []);
  some : 1 ≤ l.number;
  few : l.number ≤ l.workers;
  seats : l.seats.items ≡ map (new_seat (shown_board l.table.shared.table_id l.table.shared.key)) (range_with_len 1 (l.number - 1));
}
