use Rattle.std.proofs.Common.{refl, sym, subst}
use Rattle.plane_geom.specs.declared.Support.{Support}
use Rattle.plane_geom.specs.declared.Support.TheVariants.{Half}
use Rattle.plane_geom.specs.Shown.{point_of, vector_of, DoMeet}
use Rattle.scatter_diagram.specs.Shown.{wall_of}
use Rattle.bend_finder.specs.Marks.{MeetsFrom}
use Rattle.bend_finder.proofs.SpecialPoints.{none-more, none-at_all, wall-in}
use Rattle.bend_finder.proofs.WallCrossings.{meets-on, on-meets}
use Rattle.bend_finder.proofs.candidates.is_met.Goals as goal

pub loop-w-init : goal.loop-w-init
loop-w-init c = λ v i. absurd i

pub loop-w-preserved : goal.loop-w-preserved
loop-w-preserved c =
    let p = c.args.p.now in
    let d = c.args.d.now in
    let w = c.w-item.result in
    let s = c.support.result in
    none-more (MeetsFrom (point_of p) (vector_of d)) c.args.walls.now c.loop-w.w-index w c.loop-w-test.true c.w-item.is c.loop-w.invariant
    (λ k.
    let m = on-meets p d w s c.support.ensures.form c.support.ensures.points k.0 k.1 k.3 k.4 in
    let t = c.do_meet.ensures.1 (subst (λ (h : Support). DoMeet h s) (sym c.stretch-stretch.ensures) (m.0, (k.0, k.1, k.2, m.1))) in
    let f = c.if-do_meet.false in absurd (cc))

pub returns-then-do_meet : goal.returns-then-do_meet
returns-then-do_meet c =
    let p = c.args.p.now in
    let d = c.args.d.now in
    let w = c.w-item.result in
    let s = c.support.result in
    let m : DoMeet (Half p d) s = subst (λ (h : Support). DoMeet h s) c.stretch-stretch.ensures (c.do_meet.ensures.0 c.if-do_meet.true) in
    let o = meets-on p d w s c.support.ensures.form c.support.ensures.points m.1.0 m.1.1 m.0 m.1.3 in
    (λ t. (wall_of w, wall-in c.args.walls.now c.loop-w.w-index w c.loop-w-test.true c.w-item.is, (m.1.0, m.1.1, m.1.2, o.0, o.1)), λ s. refl)

pub returns : goal.returns
returns c = (
  λ t. absurd (cc),
  λ s. absurd (none-at_all (MeetsFrom (point_of c.args.p.now) (vector_of c.args.d.now)) c.args.walls.now c.loop-w.w-index c.loop-w-test.false c.loop-w.invariant s.0 s.1 s.2),
)
