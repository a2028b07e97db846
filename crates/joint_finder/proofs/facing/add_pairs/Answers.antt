use Rattle.std.proofs.lemmas.Result.{err_from_is_err_and}
use Rattle.joint_finder.specs.declared.live.LiveWall.{LiveWall}
use Rattle.joint_finder.specs.Crossings.{MeetsOne}
use Rattle.joint_finder.specs.Strands.{MeetsAny}
use Rattle.joint_finder.proofs.Lists.{In-get}
use Rattle.joint_finder.proofs.FacingStrands.{level-sorted}
use Rattle.joint_finder.proofs.Meetings.{some-more, stops-with}
use Rattle.joint_finder.proofs.facing.add_pairs.Goals as goal

pub add_crossings-requires : goal.add_crossings-requires
add_crossings-requires c =
    level-sorted c.args.order c.args.first.now c.args.second.now c.wall-item.result c.requires (In-get c.args.first.now c.loop-wall.wall-index c.wall-item.result c.loop-wall-test.true c.wall-item.is)

pub returns-in_err-add_crossings-clause-far : goal.returns-in_err-add_crossings-clause-far
returns-in_err-add_crossings-clause-far c =
    let p = err_from_is_err_and c.from_residual.result c.from_residual.ensures.1 in
    rw (p.1, p.2)
    (stops-with c.args.order (MeetsOne c.args.order c.wall-item.result c.args.second.now) (MeetsAny c.args.order c.args.first.now c.args.second.now) _
    (λ q r x. (c.wall-item.result, In-get c.args.first.now c.loop-wall.wall-index c.wall-item.result c.loop-wall-test.true c.wall-item.is, x))
    c.in_err-add_crossings.ensures.far)

pub loop-wall-preserved : goal.loop-wall-preserved
loop-wall-preserved c =
    some-more (λ (l : LiveWall). MeetsOne c.args.order l c.args.second.now) c.wall-item.result c.args.first.now c.loop-wall.wall-index _ _ _ c.loop-wall-test.true c.wall-item.is c.loop-wall.invariant c.in_ok-add_crossings.ensures.points
