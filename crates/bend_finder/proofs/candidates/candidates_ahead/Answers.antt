use Rattle.std.proofs.Common.{◌≡◌, ◌∙◌, ◌+◌, refl, sym, ap, subst, Bool, false, List, [], ◌∷◌, ◌++◌, take}
use Rattle.std.specs.Prelude.{◌||◌}
use Rattle.std.proofs.Math.Bool.{or-true, or-false}
use Rattle.scattering.specs.Collections.{Every}
use Rattle.scattering.specs.Wall.{Wall}
use Rattle.scattering.proofs.Lists.{Every-append}
use Rattle.plane_geom.specs.Shown.{point_of, vector_of}
use Rattle.scatter_diagram.specs.Listed.{AreOfOrder}
use Rattle.scatter_diagram.specs.Shown.{walls_of}
use Rattle.scatter_diagram.specs.declared.wall.Wall.{Wall as CodeWall}
use Rattle.bend_finder.specs.declared.marks.Mark.{Mark}
use Rattle.bend_finder.specs.Marks.{Run, AreMarks, AreMarksOfOrder}
use Rattle.bend_finder.specs.Runs.{IsOneLine, IsRunOf, all_walls}
use Rattle.bend_finder.proofs.Lines.{all-more, all-done, run-at}
use Rattle.bend_finder.proofs.MarkedRuns.{no-marks_yet, crossing-more, lying-more, moved-each, sorted-marks, marks-of_runs}
use Rattle.bend_finder.proofs.candidates.candidates_ahead.Goals as goal
use Rattle.bend_finder.proofs.candidates.candidates_ahead.Goals.{then-lies_along+in_ok-push, else-lies_along, then-branch, else-branch}

pub loop-run-init : goal.loop-run-init
loop-run-init c = record {
  marks = λ ls r.
      subst (λ (ts : List Run). AreMarks ls [] (point_of c.args.p.now) (vector_of c.args.d.now) ts c.new-marks.result.items false) (sym c.new-along.ensures.items)
      (subst (λ (ms : List Mark). AreMarks ls [] (point_of c.args.p.now) (vector_of c.args.d.now) [] ms false) (sym c.new-marks.ensures.items) (no-marks_yet ls (point_of c.args.p.now) (vector_of c.args.d.now)));
  order = λ n h. record {
    along = subst (Every (λ (a : Run). AreOfOrder n a.now)) (sym c.new-along.ensures.items) tt;
    marks = subst (AreMarksOfOrder n) (sym c.new-marks.ensures.items) tt;
  };
}

pub lies_along-requires : goal.lies_along-requires
lies_along-requires c =
    subst (λ (ws : List CodeWall). IsOneLine (walls_of ws)) (sym c.as_slice-walls.ensures.value)
    (run-at (λ r. IsOneLine (walls_of r.items)) c.args.runs.now c.loop-run.run-index c.run-item.result c.loop-run-test.true c.run-item.is c.requires)

pub add_marks-requires : goal.add_marks-requires
add_marks-requires c =
    subst (λ (ws : List CodeWall). IsOneLine (walls_of ws)) (sym c.as_slice-walls.ensures.value)
    (run-at (λ r. IsOneLine (walls_of r.items)) c.args.runs.now c.loop-run.run-index c.run-item.result c.loop-run-test.true c.run-item.is c.requires)

pub loop-run-preserved : goal.loop-run-preserved
loop-run-preserved c =
    let p = point_of c.args.p.now in
    let e = vector_of c.args.d.now in
    let rs = c.args.runs.now in
    let i = c.loop-run.run-index in
    let r = c.run-item.result in
    let t = c.loop-run-test.true in
    let a = c.as_slice-walls.result in
    let ts = c.loop-run.along.items in
    let us = c.if-lies_along.along.items in
    let far = c.loop-run.far in
    let more = c.in_ok-add_marks.field-0 in
    let old = c.loop-run.marks.items in
    let new = c.add_marks.new.marks.items in
    let same : walls_of a.now ≡ walls_of r.items = ap walls_of c.as_slice-walls.ensures.value in
    let told : (far || more) ≡ c.if-branch.far =
    elim c.if-branch.branch [
      | then-branch w ↦ ap (λ (b : Bool). far || b) w.if-branch.true ∙ or-true far ∙ sym w.far-is
      | else-branch w ↦ ap (λ (b : Bool). far || b) w.if-branch.false ∙ or-false far ∙ sym w.far-is
    ] in
    record {
      marks = λ ls h.
          let seen = all_walls (take i rs) in
          let g : IsRunOf ls (walls_of a.now) = subst (IsRunOf ls) (sym same) (run-at (λ r. IsRunOf ls (walls_of r.items)) rs i r t c.run-item.is h.each) in
          let k = c.in_ok-add_marks.ensures.marks ls in
          let both : AreMarks ls (seen ++ walls_of a.now) p e us new (far || more) =
          elim c.if-lies_along.branch [
            | then-lies_along+in_ok-push w ↦
                subst (λ (vs : List Run). AreMarks ls (seen ++ walls_of a.now) p e vs new (far || more)) (sym (ap (λ v. v.items) w.along-is ∙ w.in_ok-push.ensures.items))
                (lying-more ls seen (walls_of a.now) p e ts old new far more (c.loop-run.invariant.marks ls h) k g a refl)
            | else-lies_along w ↦
                subst (λ (vs : List Run). AreMarks ls (seen ++ walls_of a.now) p e vs new (far || more)) (sym (ap (λ v. v.items) w.along-is))
                (crossing-more ls seen (walls_of a.now) p e ts old new far more (c.loop-run.invariant.marks ls h) k g (λ m. let y = c.lies_along.ensures m in let f = w.if-lies_along.false in absurd (cc)))
          ] in
          subst (AreMarks ls (all_walls (take (i + 1) rs)) p e us new) told
          (subst (λ (vs : List Wall). AreMarks ls vs p e us new (far || more)) (ap (λ vs. seen ++ vs) same ∙ sym (all-more rs i r t c.run-item.is)) both);
      order = λ n h.
          let o : AreOfOrder n a.now = subst (AreOfOrder n) (sym c.as_slice-walls.ensures.value) (run-at (λ r. AreOfOrder n r.items) rs i r t c.run-item.is h) in
          let old = c.loop-run.invariant.order n h in
          record {
            along = elim c.if-lies_along.branch [
              | then-lies_along+in_ok-push w ↦
                  subst (Every (λ (b : Run). AreOfOrder n b.now)) (sym (ap (λ v. v.items) w.along-is ∙ w.in_ok-push.ensures.items))
                  (Every-append (λ (b : Run). AreOfOrder n b.now) ts (a ∷ []) old.along (o, tt))
              | else-lies_along w ↦ subst (Every (λ (b : Run). AreOfOrder n b.now)) (sym (ap (λ v. v.items) w.along-is)) old.along
            ];
            marks = c.in_ok-add_marks.ensures.order n o old.marks;
          };
    }

pub returns-clause-marks : goal.returns-clause-marks
returns-clause-marks c = λ ls h.
    let p = point_of c.args.p.now in
    let e = vector_of c.args.d.now in
    let rs = c.args.runs.now in
    let far = c.loop-run.far in
    let ms = c.loop-run.marks.items in
    let ts = c.loop-run.along.items in
    let all : AreMarks ls (all_walls rs) p e ts ms far = subst (λ (us : List Wall). AreMarks ls us p e ts ms far) (all-done rs c.loop-run.run-index c.loop-run-test.false) (c.loop-run.invariant.marks ls h) in
    sorted-marks ls p e ts ms c.sort.new.marks.items far (marks-of_runs ls rs p e ts ms far h all) c.sort.ensures.permutation c.sort.ensures.sorted

pub returns-clause-order : goal.returns-clause-order
returns-clause-order c = λ n h.
    let o = c.loop-run.invariant.order n h in
    record { along = o.along; marks = moved-each (λ (m : Mark). AreOfOrder n m.walls.now) c.loop-run.marks.items c.sort.new.marks.items c.sort.ensures.permutation o.marks }
