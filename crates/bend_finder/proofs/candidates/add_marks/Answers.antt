use Rattle.std.proofs.Common.{◌≡◌, ◌≢◌, ◌∙◌, refl, sym, subst, Bool, true, false, List, arith}
use Rattle.std.specs.Prelude.{pos, not}
use Rattle.std.proofs.lemmas.Int.{ints}
use Rattle.scattering.specs.Series.{det}
use Rattle.scattering.specs.Wall.{Wall}
use Rattle.plane_geom.specs.declared.Meeting.TheVariants.{Outside, TooFar, At}
use Rattle.plane_geom.specs.declared.Support.{Support}
use Rattle.plane_geom.specs.declared.Support.TheVariants.{Line, Half}
use Rattle.plane_geom.specs.Shown.{point_of, vector_of, IsMeeting}
use Rattle.scatter_diagram.specs.Shown.{walls_of}
use Rattle.bend_finder.specs.declared.marks.Mark.{Mark}
use Rattle.bend_finder.specs.Marks.{AddsMarks}
use Rattle.bend_finder.proofs.FoundWalls.{some-walls, no-walls_of}
use Rattle.bend_finder.proofs.MarkedRuns.{no-marks, parallel-marks, unmet-marks, outside-marks, far-marks, own-marks, met-marks, equal-point, point-equal}
use Rattle.bend_finder.proofs.SpecialPoints.{wall-in}
use Rattle.bend_finder.proofs.candidates.add_marks.Goals as goal

twice : (b : Bool) → not b ≡ false → b ≡ true
twice true e = refl
twice false e = absurd (cc)

pub returns-then-walls-eq0-clause-marks : goal.returns-then-walls-eq0-clause-marks
returns-then-walls-eq0-clause-marks c = λ ls.
    let ms = c.args.marks.now.items in
    subst (λ (us : List Wall). AddsMarks ls us (point_of c.args.p.now) (vector_of c.args.d.now) ms ms false) (sym (no-walls_of c.args.walls.now c.if-walls-eq0.true)) (no-marks ls (point_of c.args.p.now) (vector_of c.args.d.now) ms)

pub returns-then-det-eq0-clause-marks : goal.returns-then-det-eq0-clause-marks
returns-then-det-eq0-clause-marks c = λ ls.
    let ws = c.args.walls.now in
    let u = c.index-walls-0.result in
    let i = wall-in ws 0 u (some-walls ws c.if-walls-eq0.false) c.index-walls-0.is in
    let z : det (vector_of c.args.d.now) (vector_of u.dir) ≡ pos 0 = (let v = c.det.ensures.value in let t = c.if-det-eq0.true in omega (arith, ints, v, t)) in
    parallel-marks ls c.args.p.now c.args.d.now ws c.requires u i z c.args.marks.now.items c.add_starts.new.marks.items c.in_ok-add_starts.ensures.points (c.in_ok-add_starts.ensures.marks ls)

pub returns-then-not-is_met-clause-marks : goal.returns-then-not-is_met-clause-marks
returns-then-not-is_met-clause-marks c = λ ls.
    let ws = c.args.walls.now in
    let u = c.index-walls-0.result in
    let i = wall-in ws 0 u (some-walls ws c.if-walls-eq0.false) c.index-walls-0.is in
    let n : det (vector_of c.args.d.now) (vector_of u.dir) ≢ pos 0 = (λ z. let v = c.det.ensures.value in let f = c.if-det-eq0.false in omega (arith, ints, v, f, z)) in
    unmet-marks ls c.args.p.now c.args.d.now ws c.requires u i n (λ m. let t = c.is_met.ensures.1 m in let f = c.if-not-is_met.true in absurd (cc)) c.args.marks.now.items

pub returns-in_ok-push-in-At-clause-marks : goal.returns-in_ok-push-in-At-clause-marks
returns-in_ok-push-in-At-clause-marks c = λ ls.
    let p = c.args.p.now in
    let d = c.args.d.now in
    let ws = c.args.walls.now in
    let u = c.index-walls-0.result in
    let i = wall-in ws 0 u (some-walls ws c.if-walls-eq0.false) c.index-walls-0.is in
    let q = c.in-At.at in
    let m : IsMeeting (Half p d) (Line u.at u.dir) (At q) = subst (λ (s : Support). IsMeeting s (Line u.at u.dir) (At q)) c.stretch.ensures (subst (λ (l : Support). IsMeeting c.stretch.result l (At q)) c.line_of.ensures c.in-At.ensures) in
    let old = c.args.marks.now.items in
    let x : Mark = record { at = q; walls = c.args.walls } in
    subst (λ (ms : List Mark). AddsMarks ls (walls_of ws) (point_of p) (vector_of d) old ms false) (sym c.in_ok-push-in-At.ensures.items)
    (met-marks ls p d ws c.requires u i q m.0 m.1 m.2 (c.is_met.ensures.0 c.if-not-is_met.false) (λ e. let k = point-equal (point_of q) (point_of p) e in let v = c.ne.ensures in let t = c.if-ne.true in absurd (cc)) old x refl refl)

pub returns-else-ne-clause-marks : goal.returns-else-ne-clause-marks
returns-else-ne-clause-marks c = λ ls.
    let p = c.args.p.now in
    let d = c.args.d.now in
    let ws = c.args.walls.now in
    let u = c.index-walls-0.result in
    let i = wall-in ws 0 u (some-walls ws c.if-walls-eq0.false) c.index-walls-0.is in
    let q = c.in-At.at in
    let m : IsMeeting (Half p d) (Line u.at u.dir) (At q) = subst (λ (s : Support). IsMeeting s (Line u.at u.dir) (At q)) c.stretch.ensures (subst (λ (l : Support). IsMeeting c.stretch.result l (At q)) c.line_of.ensures c.in-At.ensures) in
    own-marks ls p d ws c.requires u i q m.0 m.1 m.2 (c.is_met.ensures.0 c.if-not-is_met.false) (equal-point (point_of q) (point_of p) (twice _ (sym c.ne.ensures ∙ c.if-ne.false))) c.args.marks.now.items

pub returns-in-TooFar-clause-marks : goal.returns-in-TooFar-clause-marks
returns-in-TooFar-clause-marks c = λ ls.
    let p = c.args.p.now in
    let d = c.args.d.now in
    let ws = c.args.walls.now in
    let u = c.index-walls-0.result in
    let i = wall-in ws 0 u (some-walls ws c.if-walls-eq0.false) c.index-walls-0.is in
    let m : IsMeeting (Half p d) (Line u.at u.dir) TooFar = subst (λ (s : Support). IsMeeting s (Line u.at u.dir) TooFar) c.stretch.ensures (subst (λ (l : Support). IsMeeting c.stretch.result l TooFar) c.line_of.ensures c.in-TooFar.ensures) in
    far-marks ls p d ws c.requires u i m.1 m.0 (c.is_met.ensures.0 c.if-not-is_met.false) c.args.marks.now.items

pub returns-in-Outside-clause-marks : goal.returns-in-Outside-clause-marks
returns-in-Outside-clause-marks c = λ ls.
    let p = c.args.p.now in
    let d = c.args.d.now in
    let ws = c.args.walls.now in
    let u = c.index-walls-0.result in
    let i = wall-in ws 0 u (some-walls ws c.if-walls-eq0.false) c.index-walls-0.is in
    let m : IsMeeting (Half p d) (Line u.at u.dir) Outside = subst (λ (s : Support). IsMeeting s (Line u.at u.dir) Outside) c.stretch.ensures (subst (λ (l : Support). IsMeeting c.stretch.result l Outside) c.line_of.ensures c.in-Outside.ensures) in
    outside-marks ls p d ws c.requires u i m.0 (c.is_met.ensures.0 c.if-not-is_met.false) m.1
