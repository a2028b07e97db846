use Rattle.std.proofs.Common.{arith}
use Rattle.std.proofs.lemmas.Result.{err_from_is_err_and}
use Rattle.joint_finder.specs.Strands.{MeetsLevels, IsNewlyMet}
use Rattle.joint_finder.proofs.Meetings.{stops-with}
use Rattle.joint_finder.proofs.NewMeetings.{level-new, none-below, below-more, below-all}
use Rattle.joint_finder.proofs.new_crossings.new_crossings.Goals as goal

pub returns-in_err-add_level-clause-far : goal.returns-in_err-add_level-clause-far
returns-in_err-add_level-clause-far g c =
    let p = err_from_is_err_and c.from_residual.result c.from_residual.ensures.1 in
    let t = c.loop-low-test.true in
    let n = c.args.order in
    let k = c.loop-low.low in
    let ls = c.args.live.now in
    rw (p.1, p.2) (stops-with n (MeetsLevels n k ls) (IsNewlyMet n ls) _ (λ q r x. level-new n k ls q (omega (arith, t)) x) c.in_err-add_level.ensures.far)

pub loop-low-preserved : goal.loop-low-preserved
loop-low-preserved g c =
    let t = c.loop-low-test.true in
    below-more c.args.order c.loop-low.low c.args.live.now _ _ _ (omega (arith, t)) c.loop-low.invariant c.in_ok-add_level.ensures.points

pub loop-low-init : goal.loop-low-init
loop-low-init g c = rw c.new-points.ensures.items (none-below c.args.order c.args.live.now)

pub returns-clause-points : goal.returns-clause-points
returns-clause-points g c = let t = c.loop-low-test.false in below-all c.args.order c.loop-low.low c.args.live.now _ _ (omega (arith, t)) c.loop-low.invariant
