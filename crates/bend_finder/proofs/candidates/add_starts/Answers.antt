use Rattle.std.proofs.Common.{◌≡◌, ◌∙◌, refl, sym, ap, subst, List, [], ◌∷◌, ◌++◌}
use Rattle.std.proofs.lemmas.List.{take_all}
use Rattle.scattering.proofs.Lists.{Every-append, map-append}
use Rattle.plane_geom.specs.Shown.{point_of, vector_of}
use Rattle.scatter_diagram.specs.Listed.{AreOfOrder}
use Rattle.scatter_diagram.specs.Shown.{wall_of, walls_of}
use Rattle.scatter_diagram.specs.declared.wall.Wall.{Wall as CodeWall}
use Rattle.joint_finder.specs.Crossings.{Adds}
use Rattle.joint_finder.proofs.Meetings.{some-more, adds-one}
use Rattle.broken_line_theory.proofs.GenericPoints.{on-own}
use Rattle.bend_finder.specs.declared.marks.Mark.{Mark}
use Rattle.bend_finder.specs.Crossings.{IsStartOf, IsStartOfSome}
use Rattle.bend_finder.specs.Marks.{marked, KeepsMarks, AreMarksOfOrder}
use Rattle.bend_finder.proofs.MarkedRuns.{same-marks, one-mark, then-marks}
use Rattle.bend_finder.proofs.SpecialPoints.{wall-in}
use Rattle.bend_finder.proofs.WallCrossings.{none-started, not-started}
use Rattle.bend_finder.proofs.candidates.add_starts.Goals as goal
use Rattle.bend_finder.proofs.candidates.add_starts.Goals.{then-is_ahead+in_ok-push, else-is_ahead}

pub loop-w-init : goal.loop-w-init
loop-w-init c = record {
  points = none-started (point_of c.args.p.now) (vector_of c.args.d.now) (marked c.args.marks.now.items);
  marks = λ ls. same-marks ls (walls_of c.args.walls.now) c.args.marks.now.items;
  order = λ n o h. h;
}

pub loop-w-preserved : goal.loop-w-preserved
loop-w-preserved c =
    let p = point_of c.args.p.now in
    let e = vector_of c.args.d.now in
    let w = c.w-item.result in
    let ws = c.args.walls.now in
    let old = c.loop-w.marks.items in
    let new = c.if-is_ahead.marks.items in
    let i = wall-in ws c.loop-w.w-index w c.loop-w-test.true c.w-item.is in
    elim c.if-is_ahead.branch [
      | then-is_ahead+in_ok-push m ↦
          let x : Mark = record { at = w.at; walls = c.args.walls } in
          let is : new ≡ old ++ x ∷ [] = ap (λ v. v.items) m.marks-is ∙ m.in_ok-push.ensures.items in
          record {
            points = some-more (IsStartOf p e) w ws c.loop-w.w-index (marked c.args.marks.now.items) (marked old) (marked new) c.loop-w-test.true c.w-item.is c.loop-w.invariant.points
                (subst (Adds (IsStartOf p e w) (marked old)) (sym (ap marked is ∙ map-append (λ (y : Mark). y.at) old (x ∷ [])))
                (adds-one (IsStartOf p e w) (marked old) w.at (refl, c.is_ahead.ensures.0 m.if-is_ahead.true) (λ q j s. s.0)));
            marks = λ ls. then-marks ls (walls_of ws) c.args.marks.now.items old new (c.loop-w.invariant.marks ls)
                (subst (KeepsMarks ls (walls_of ws) old) (sym is) (one-mark ls (walls_of ws) old x refl (wall_of w, i, on-own (wall_of w))));
            order = λ n o h. subst (AreMarksOfOrder n) (sym is) (Every-append (λ (y : Mark). AreOfOrder n y.walls.now) old (x ∷ []) (c.loop-w.invariant.order n o h) (o, tt));
          }
      | else-is_ahead m ↦
          let is : new ≡ old = ap (λ v. v.items) m.marks-is in
          record {
            points = some-more (IsStartOf p e) w ws c.loop-w.w-index (marked c.args.marks.now.items) (marked old) (marked new) c.loop-w-test.true c.w-item.is c.loop-w.invariant.points
                (subst (Adds (IsStartOf p e w) (marked old)) (sym (ap marked is)) (not-started p e w (marked old) (λ b. let t = c.is_ahead.ensures.1 b in let f = m.if-is_ahead.false in absurd (cc))));
            marks = λ ls. subst (KeepsMarks ls (walls_of ws) c.args.marks.now.items) (sym is) (c.loop-w.invariant.marks ls);
            order = λ n o h. subst (AreMarksOfOrder n) (sym is) (c.loop-w.invariant.order n o h);
          }
    ]

pub returns-clause-points : goal.returns-clause-points
returns-clause-points c =
    subst (λ (ws : List CodeWall). Adds (IsStartOfSome ws (point_of c.args.p.now) (vector_of c.args.d.now)) (marked c.args.marks.now.items) (marked c.loop-w.marks.items)) (take_all c.loop-w.w-index c.args.walls.now c.loop-w-test.false) c.loop-w.invariant.points

pub returns-clause-marks : goal.returns-clause-marks
returns-clause-marks c = c.loop-w.invariant.marks

pub returns-clause-order : goal.returns-clause-order
returns-clause-order c = c.loop-w.invariant.order
