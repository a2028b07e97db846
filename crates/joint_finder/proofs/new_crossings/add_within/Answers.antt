use Rattle.std.proofs.lemmas.Result.{err_from_is_err_and}
use Rattle.joint_finder.specs.Strands.{MeetsAny, MeetsPairs, joined}
use Rattle.joint_finder.proofs.FacingStrands.{all-facing, pairs-in, pairs-out}
use Rattle.joint_finder.proofs.Meetings.{adds-same, stops-with}
use Rattle.joint_finder.proofs.RowPoints.{joined-adds}
use Rattle.joint_finder.proofs.new_crossings.add_within.Goals as goal

pub rows-requires-clause-facing : goal.rows-requires-clause-facing
rows-requires-clause-facing g c κs o =
    rw (c.as_slice.ensures.value, c.as_slice-2.ensures.value)
    (all-facing c.args.order c.args.walls.now c.args.walls.now c.in_ok-ss.ss.items c.in_ok-ss.ss.items c.requires.facing c.in_ok-ss.ensures c.in_ok-ss.ensures)

pub returns-in_err-rows-clause-far : goal.returns-in_err-rows-clause-far
returns-in_err-rows-clause-far g c =
    let p = err_from_is_err_and c.from_residual-in_err-rows.result c.from_residual-in_err-rows.ensures.1 in
    let n = c.args.order in
    rw (p.1, p.2)
    (stops-with n (MeetsPairs n c.in_ok-ss.ss.items c.in_ok-ss.ss.items) (MeetsAny n c.args.walls.now c.args.walls.now) _
    (λ q r x. pairs-in n c.args.walls.now c.args.walls.now c.in_ok-ss.ss.items c.in_ok-ss.ss.items q c.in_ok-ss.ensures c.in_ok-ss.ensures x)
    (rw (c.as_slice.ensures.value, c.as_slice-2.ensures.value) at c.in_err-rows.ensures.far))

pub returns-clause-points : goal.returns-clause-points
returns-clause-points g c =
    let n = c.args.order in
    let ls = c.args.walls.now in
    let ms = c.args.walls.now in
    let ss = c.in_ok-ss.ss.items in
    let ts = c.in_ok-ss.ss.items in
    joined-adds (MeetsAny n ls ms) c.args.points.now.items c.add_rows.new.points.items (joined c.in_ok-rows.rows.items)
    (adds-same (MeetsPairs n ss ts) (MeetsAny n ls ms) _ _ (λ p x. pairs-in n ls ms ss ts p c.in_ok-ss.ensures c.in_ok-ss.ensures x) (λ p x. pairs-out n ls ms ss ts p c.in_ok-ss.ensures c.in_ok-ss.ensures x)
    (rw (c.as_slice.ensures.value, c.as_slice-2.ensures.value) at c.in_ok-rows.ensures.points))
    (rw c.as_slice-3.ensures.value at c.in_ok-add_rows.ensures)
