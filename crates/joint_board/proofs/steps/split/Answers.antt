use Rattle.std.proofs.Common.{arith}
use Rattle.joint_board.proofs.Moves.{splits_at}
use Rattle.joint_board.proofs.steps.split.Goals as goal

pub split_seat-requires : goal.split_seat-requires
split_seat-requires c =
    let r = c.requires.table in
    let one = r.one in
    let f = c.requires.first in (
      r.same,
      omega arith,
      (λ s h at. (h.0, h.1, splits_at _ _ f.0 _ r.live f.1 c.requires.few h.0 s.views h.2 at)),
    )
