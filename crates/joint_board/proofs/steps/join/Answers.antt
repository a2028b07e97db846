use Rattle.std.proofs.Common.{arith}
use Rattle.joint_board.proofs.Moves.{joins}
use Rattle.joint_board.proofs.steps.join.Goals as goal

pub join_seat-requires : goal.join_seat-requires
join_seat-requires c =
    let r = c.requires.table in
    let o = c.requires.other in
    let f = c.requires.first in
    let one = r.one in (
      r.same,
      o.same,
      o.empty,
      omega arith,
      (λ s h at apart there. (
        h.0,
        h.1,
        joins _ _ _ _ _ r.live f.done f.number o.live c.requires.done h.0 s.views h.2 at apart there,
      )),
    )
