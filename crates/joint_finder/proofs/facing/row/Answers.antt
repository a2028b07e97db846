use Rattle.std.proofs.lemmas.Result.{err_from_is_err_and}
use Rattle.scattering.proofs.Lists.{Every-at}
use Rattle.joint_finder.specs.declared.strands.Strand.{Strand}
use Rattle.joint_finder.specs.Strands.{IsFacing, MeetsAny, MeetsRow}
use Rattle.joint_finder.proofs.Lists.{In-get}
use Rattle.joint_finder.proofs.Meetings.{some-more, stops-with}
use Rattle.joint_finder.proofs.facing.row.Goals as goal

pub add_meeting-requires : goal.add_meeting-requires
add_meeting-requires c = Every-at (IsFacing c.args.order c.args.s.now) c.args.others.now c.t-item.result c.requires (In-get c.args.others.now c.loop-t.t-index c.t-item.result c.loop-t-test.true c.t-item.is)

pub returns-in_err-add_meeting : goal.returns-in_err-add_meeting
returns-in_err-add_meeting c =
    let p = err_from_is_err_and c.from_residual.result c.from_residual.ensures.1 in
    rw (p.1, p.2)
    (record {
      points = tt;
      far = stops-with c.args.order (MeetsAny c.args.order c.args.s.now.walls.now c.t-item.result.walls.now) (MeetsRow c.args.order c.args.s.now c.args.others.now) _
          (λ q r x. (c.t-item.result, In-get c.args.others.now c.loop-t.t-index c.t-item.result c.loop-t-test.true c.t-item.is, x))
          c.in_err-add_meeting.ensures.far;
    })

pub loop-t-preserved : goal.loop-t-preserved
loop-t-preserved c =
    some-more (λ (t : Strand). MeetsAny c.args.order c.args.s.now.walls.now t.walls.now) c.t-item.result c.args.others.now c.loop-t.t-index _ _ _ c.loop-t-test.true c.t-item.is c.loop-t.invariant c.in_ok-add_meeting.ensures.points
