use Rattle.std.proofs.Common.{sym, subst}
use Rattle.std.proofs.lemmas.Result.{on_ok_weaker}
use Rattle.plane_geom.specs.Shown.{point_of}
use Rattle.joint_finder.specs.Crossings.{Meets, Adds}
use Rattle.joint_finder.proofs.Meetings.{one-meeting, adds-one}
use Rattle.joint_finder.proofs.crossings.add_crossing.Goals as goal

pub returns-in-At-clause-points : goal.returns-in-At-clause-points
returns-in-At-clause-points c =
    let n = c.args.order in
    let l = c.args.wall.now in
    let m = c.args.other.now in
    let h : Meets n l m (point_of c.in-At.p) = record { fits = c.requires; crossing = c.in-At.ensures.0; first = c.in-At.ensures.1; second = c.in-At.ensures.2 } in
    on_ok_weaker c.push.result
    (λ e. subst (Adds (Meets n l m) c.args.points.now.items) (sym e)
    (adds-one (Meets n l m) c.args.points.now.items c.in-At.p h (λ q i k. one-meeting n l m q (point_of c.in-At.p) i c.in-At.p.reduced k h)))
    c.push.ensures.points
