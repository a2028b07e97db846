use Rattle.std.proofs.Common.{◌≡◌, ◌++◌, ◌∙◌, ap, sym, take, append_assoc}
use Rattle.joint_finder.specs.Strands.{joined}
use Rattle.joint_finder.proofs.RowPoints.{joined-more}
use Rattle.joint_finder.proofs.rows.add_rows.Goals as goal

pub loop-row-preserved : goal.loop-row-preserved
loop-row-preserved c =
    let start = c.args.points.now.items in
    let rows = c.args.rows.now in
    let i = c.loop-row.row-index in
    let row = c.row-item.result in
    let e : c.extend_from_slice.new.self.items ≡ c.loop-row.points.items ++ row.items = rw c.as_slice.ensures.value at c.in_ok-extend_from_slice.ensures.items in
    e ∙ ap (λ xs. xs ++ row.items) c.loop-row.invariant ∙ append_assoc start (joined (take i rows)) row.items ∙ ap (λ xs. start ++ xs) (sym (joined-more rows i row c.loop-row-test.true c.row-item.is))
