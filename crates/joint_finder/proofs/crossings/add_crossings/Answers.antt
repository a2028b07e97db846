use Rattle.std.proofs.lemmas.Result.{err_from_is_err_and}
use Rattle.joint_finder.specs.Crossings.{Meets, MeetsOne}
use Rattle.joint_finder.proofs.Lists.{In-get}
use Rattle.joint_finder.proofs.Meetings.{some-more, meets-all, stops-with}
use Rattle.joint_finder.proofs.crossings.add_crossings.Goals as goal

pub returns-in_err-add_crossing-clause-far : goal.returns-in_err-add_crossing-clause-far
returns-in_err-add_crossing-clause-far c =
    let p = err_from_is_err_and c.from_residual.result c.from_residual.ensures.1 in
    rw (p.1, p.2)
    (stops-with c.args.order (Meets c.args.order c.args.wall.now c.other-item.result) (MeetsOne c.args.order c.args.wall.now c.args.later.now) _
    (λ q r x. (c.other-item.result, In-get c.args.later.now c.loop-other.other-index c.other-item.result c.loop-other-test.true c.other-item.is, x))
    c.in_err-add_crossing.ensures.far)

pub loop-other-preserved : goal.loop-other-preserved
loop-other-preserved c =
    some-more (Meets c.args.order c.args.wall.now) c.other-item.result c.args.later.now c.loop-other.other-index _ _ _ c.loop-other-test.true c.other-item.is c.loop-other.invariant c.in_ok-add_crossing.ensures.points

pub returns-then-not-fits-clause-points : goal.returns-then-not-fits-clause-points
returns-then-not-fits-clause-points c =
    meets-all c.args.order c.args.wall.now c.other-item.result c.args.later.now c.loop-other.other-index _ _ c.requires c.loop-other-test.true c.other-item.is (λ h. let t = c.fits.ensures.1 h in let f = c.if-not-fits.true in cc) c.loop-other.invariant
