use Rattle.std.proofs.Common.{refl}
use Rattle.joint_board.specs.Rule.{after_claim, seen_seat}
use Rattle.joint_board.specs.Seen.{IsDrawn}
use Rattle.joint_board.proofs.Draws.{draws_fall}
use Rattle.joint_board.proofs.Numbers.{all_above}
use Rattle.joint_board.proofs.seat.BoardSeat.draw.Goals as goal

pub returns : goal.returns
returns c =
    let e = c.draw-number.ensures in
    let s = c.self.inside.seat in
    let n = c.draw-number.result in
    let drawn : IsDrawn (seen_seat s.table_id s.me.0) n (seen_seat s.table_id (after_claim s.me.0 n)) =
    record { above = all_above s.me.0.drawn n e.above; seat = refl } in
    let idle = rw (← c.self.view_is) at c.requires.idle in
    rw (e.table, e.seat, ← c.self.view_is) (record { drawn = drawn; fewer = draws_fall _ _ n idle drawn })
