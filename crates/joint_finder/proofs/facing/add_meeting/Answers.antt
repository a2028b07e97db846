use Rattle.std.proofs.Common.{sym, subst}
use Rattle.std.proofs.lemmas.Result.{on_ok_weaker}
use Rattle.scattering.specs.Plane.{Point}
use Rattle.plane_geom.specs.Shown.{point_of}
use Rattle.joint_finder.specs.Crossings.{Adds}
use Rattle.joint_finder.specs.Strands.{IsHeld, MeetsAny}
use Rattle.joint_finder.proofs.FacingStrands.{adds-none, meet-there, meet-where, held-both, no-meeting}
use Rattle.joint_finder.proofs.Meetings.{adds-one}
use Rattle.joint_finder.proofs.facing.add_meeting.Goals as goal
use Rattle.joint_finder.proofs.facing.add_meeting.Goals.{else-some_holds-via-then-some_holds+else-some_holds-2, else-some_holds-via-else-some_holds}

pub returns-then-some_holds-2-clause-points : goal.returns-then-some_holds-2-clause-points
returns-then-some_holds-2-clause-points c =
    let n = c.args.order in
    let s = c.args.s.now in
    let t = c.args.t.now in
    let p = point_of c.in-At.p in
    let old = c.args.points.now.items in
    let at = c.in-At.ensures in
    let there = meet-there n s t c.requires p at.0 (c.some_holds.ensures.0 c.if-some_holds.true) (c.some_holds-then-some_holds.ensures.0 c.if-some_holds-2.true) in
    on_ok_weaker c.push.result
    (λ e. subst (Adds (MeetsAny n s.walls.now t.walls.now) old) (sym e)
    (adds-one (MeetsAny n s.walls.now t.walls.now) old c.in-At.p there (λ q i x. meet-where n s t c.requires p q c.in-At.p.reduced i at.1 at.2 x)))
    c.push.ensures.points

pub returns-else-some_holds-clause-points : goal.returns-else-some_holds-clause-points
returns-else-some_holds-clause-points c =
    let n = c.args.order in
    let s = c.args.s.now in
    let t = c.args.t.now in
    let at = c.in-At.ensures in
    adds-none (MeetsAny n s.walls.now t.walls.now) c.args.points.now.items
    (λ q i x.
    let e = meet-where n s t c.requires (point_of c.in-At.p) q c.in-At.p.reduced i at.1 at.2 x in
    let h = held-both n s t c.requires q x in
    let a = subst (λ (r : Point). IsHeld r s.walls.now) e h.0 in
    let b = subst (λ (r : Point). IsHeld r t.walls.now) e h.1 in
    let none : ⊥ = elim c.else-some_holds.branch [
      | else-some_holds-via-then-some_holds+else-some_holds-2 w ↦ let u = w.some_holds-then-some_holds.ensures.1 b in let v = w.if-some_holds-2.false in cc
      | else-some_holds-via-else-some_holds w ↦ let u = c.some_holds.ensures.1 a in let v = w.if-some_holds.false in cc
    ] in
    none)

pub returns-in-Parallel-clause-points : goal.returns-in-Parallel-clause-points
returns-in-Parallel-clause-points c =
    let n = c.args.order in
    let s = c.args.s.now in
    let t = c.args.t.now in
    adds-none (MeetsAny n s.walls.now t.walls.now) c.args.points.now.items (λ q i x. no-meeting n s t c.requires c.meet.result c.meet.ensures c.in-Parallel.is q i x)
