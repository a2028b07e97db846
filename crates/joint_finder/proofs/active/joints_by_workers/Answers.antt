use Rattle.std.proofs.Common.{◌≡◌, ◌+◌, ◌-◌, [], sym, subst, List, arith}
use Rattle.std.specs.Prelude.{IsTrue}
use Rattle.std.proofs.lemmas.Result.{err_from_is_err_and}
use Rattle.std.proofs.lemmas.List.Sorted.{IsPermutation-sym}
use Rattle.scattering.specs.Wall.{walls}
use Rattle.scattering.specs.ActivePoint.{is_active}
use Rattle.joint_finder.specs.declared.live.LiveWall.{LiveWall}
use Rattle.joint_finder.specs.Live.{AreLive}
use Rattle.joint_finder.specs.Crossings.{AreMeeting, Adds}
use Rattle.joint_finder.specs.Strands.{IsNewlyMet}
use Rattle.joint_finder.proofs.LiveWalls.{meeting-active}
use Rattle.joint_finder.proofs.Meetings.{stops-with}
use Rattle.joint_finder.proofs.NewMeetings.{new-meeting}
use Rattle.joint_finder.proofs.ActivePoints.{are-joints, all-near, known-meetings}
use Rattle.joint_finder.proofs.active.joints_by_workers.Goals as goal

pub returns-in_err-points-clause-stop : goal.returns-in_err-points-clause-stop
returns-in_err-points-clause-stop g c =
    let p = err_from_is_err_and c.from_residual-in_err-points.result c.from_residual-in_err-points.ensures.1 in
    let n = c.args.order in
    let ws = walls c.args.e.now.diagram in
    let ls = c.as_slice.result.now in
    let live : AreLive ls ws = subst (λ (ks : List LiveWall). AreLive ks ws) (sym c.as_slice.ensures.value) c.in_ok-live.ensures.walls in
    rw (p.1, p.2) (stops-with n (IsNewlyMet n ls) (λ q. IsTrue (is_active n ws q)) _ (λ q r m. meeting-active n ls ws q live r (new-meeting n ls q m)) c.in_err-points.ensures.far)

pub returns-clause-joints : goal.returns-clause-joints
returns-clause-joints g c =
    let n = c.args.order in
    let ws = walls c.args.e.now.diagram in
    let ls = c.as_slice.result.now in
    let known = c.args.known.now in
    let least = c.requires.least in
    let before : (n - 1) + 1 ≡ n = omega (arith, least) in
    let live : AreLive ls ws = subst (λ (ks : List LiveWall). AreLive ks ws) (sym c.as_slice.ensures.value) c.in_ok-live.ensures.walls in
    let all = c.extend_from_slice.new.self.items in
    let met : Adds (AreMeeting n ls) [] all = subst (Adds (AreMeeting n ls) []) (sym c.in_ok-extend_from_slice.ensures.items)
    (known-meetings (n - 1) ws ls live c.in_ok-live.ensures.kinds n known c.in_ok-points.points.items before (c.requires.known (n - 1) before) c.in_ok-points.ensures.points) in
    are-joints n ws ls live c.in_ok-live.ensures.kinds all c.sort_by_workers.new.points.items c.drop_repeats.new.points.items met c.sort_by_workers.ensures.permutation
    (IsPermutation-sym _ _ c.sort_by_workers.ensures.permutation) c.sort_by_workers.ensures.sorted c.drop_repeats.ensures

pub returns-clause-near : goal.returns-clause-near
returns-clause-near g c = all-near c.args.order (walls c.args.e.now.diagram) c.drop_repeats.new.points.items (returns-clause-joints g c)
