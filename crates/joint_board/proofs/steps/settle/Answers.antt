use Rattle.std.proofs.Common.{ℕ, List, refl, sym, ap, subst, slice_index, slice_set, arith}
use Rattle.atomic_table.specs.Table.Act.{keeps}
use Rattle.atomic_table.proofs.Lists.{set_again}
use Rattle.joint_board.specs.declared.view.View.{View}
use Rattle.joint_board.specs.Rule.{IsBoard}
use Rattle.joint_board.proofs.Moves.{settles}
use Rattle.joint_board.proofs.steps.settle.Goals as goal

pub load-requires : goal.load-requires
load-requires c =
    let r = c.requires.table in
    let f = c.requires.first in
    let one = r.one in
    let v = c.args.first.now.me.0 in
    let tasks = c.args.table.now.shared.key.tasks in (
      r.same,
      omega arith,
      (λ s h homes at small.
          let same = set_again s.views c.args.first.now.id v at in (
            v,
            keeps,
            tt,
            (
              h.0,
              ap (λ (ws : List ℕ). slice_set ws 0 (slice_index ws 0)) h.1,
              subst (λ (views : List View). IsBoard tasks h.0 views) (sym same) h.2,
            ),
            (refl, settles tasks c.args.first.now.id v r.live f.done f.number c.requires.full h.0 s.views h.2 at),
          )),
    )
