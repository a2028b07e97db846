use Rattle.std.proofs.Common.{sym, subst, List}
use Rattle.std.specs.Prelude.{IsTrue}
use Rattle.std.proofs.lemmas.Result.{err_from_is_err_and}
use Rattle.std.proofs.lemmas.List.Sorted.{IsPermutation-sym}
use Rattle.scattering.specs.Wall.{walls}
use Rattle.scattering.specs.ActivePoint.{is_active}
use Rattle.joint_finder.specs.declared.live.LiveWall.{LiveWall}
use Rattle.joint_finder.specs.Live.{AreLive}
use Rattle.joint_finder.specs.Joints.{points_of, AreJoints}
use Rattle.joint_finder.specs.Crossings.{AreMeeting}
use Rattle.joint_finder.proofs.LiveWalls.{meeting-active}
use Rattle.joint_finder.proofs.Meetings.{stops-with}
use Rattle.joint_finder.proofs.ActivePoints.{are-joints, all-near}
use Rattle.joint_finder.proofs.active.joints.Goals as goal

pub returns-in_err-points-clause-stop : goal.returns-in_err-points-clause-stop
returns-in_err-points-clause-stop c =
    let p = err_from_is_err_and c.from_residual-in_err-points.result c.from_residual-in_err-points.ensures.1 in
    let n = c.args.order in
    let ws = walls c.args.e.now.diagram in
    let live : AreLive c.as_slice.result.now ws = subst (λ (ls : List LiveWall). AreLive ls ws) (sym c.as_slice.ensures.value) c.in_ok-live.ensures.walls in
    rw (p.1, p.2) (stops-with n (AreMeeting n c.as_slice.result.now) (λ q. IsTrue (is_active n ws q)) _ (λ q r m. meeting-active n c.as_slice.result.now ws q live r m) c.in_err-points.ensures.far)

joined : (c : goal.After-drop-live-2) → AreJoints c.args.order (walls c.args.e.now.diagram) (points_of c.drop_repeats.new.points.items)
joined c =
    let n = c.args.order in
    let ws = walls c.args.e.now.diagram in
    let live : AreLive c.as_slice.result.now ws = subst (λ (ls : List LiveWall). AreLive ls ws) (sym c.as_slice.ensures.value) c.in_ok-live.ensures.walls in
    are-joints n ws c.as_slice.result.now live c.in_ok-live.ensures.kinds c.in_ok-points.points.items c.sort.new.points.items c.drop_repeats.new.points.items c.in_ok-points.ensures.points c.sort.ensures.permutation
    (IsPermutation-sym _ _ c.sort.ensures.permutation) c.sort.ensures.sorted c.drop_repeats.ensures

pub returns-clause-joints : goal.returns-clause-joints
returns-clause-joints c = joined c

pub returns-clause-near : goal.returns-clause-near
returns-clause-near c = all-near c.args.order (walls c.args.e.now.diagram) c.drop_repeats.new.points.items (joined c)
