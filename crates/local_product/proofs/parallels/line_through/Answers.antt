use Rattle.std.proofs.Common.{◌∙◌, ap, sym, arith}
use Rattle.std.specs.Ordering.{is_eq}
use Rattle.plane_geom.specs.Shown.{point_of}
use Rattle.local_product.proofs.RunLines.{one-at, none-before-end, none-behind}
use Rattle.local_product.proofs.parallels.line_through.Goals.{else-at-end-via-then-at-end+else-is_eq, else-at-end-via-else-at-end}
use Rattle.local_product.proofs.parallels.line_through.Goals as goal

pub returns-then-is_eq-clause-others : goal.returns-then-is_eq-clause-others
returns-then-is_eq-clause-others c =
    let f = c.first_from-at.ensures in
    let m = c.parallel-line in
    one-at c.args.begin c.args.end c.args.lines.now c.requires.rise c.requires.end (point_of c.args.p.now) m.result c.index-lines-begin.result m.ensures.point c.index-lines-begin.is m.ensures.direction
    c.first_from-at.result f.within.0 f.before f.others

pub returns-else-at-end-clause-others : goal.returns-else-at-end-clause-others
returns-else-at-end-clause-others c =
    let f = c.first_from-at.ensures in
    let m = c.parallel-line in
    elim c.else-at-end.branch [
      | else-at-end-via-then-at-end+else-is_eq w ↦
          none-behind c.args.begin c.args.end c.args.lines.now c.requires.rise c.requires.end (point_of c.args.p.now) m.result c.index-lines-begin.result m.ensures.point c.index-lines-begin.is m.ensures.direction
          c.first_from-at.result f.within.0 f.before f.others w.index-lines-at.result w.if-at-end.true w.index-lines-at.is (ap is_eq (sym w.compare.ensures) ∙ sym w.is_eq.ensures ∙ w.if-is_eq.false)
      | else-at-end-via-else-at-end w ↦
          let q = w.if-at-end.false in
          none-before-end c.args.begin c.args.end c.args.lines.now c.requires.rise c.requires.end (point_of c.args.p.now) m.result c.index-lines-begin.result m.ensures.point c.index-lines-begin.is m.ensures.direction
          c.first_from-at.result f.within.0 f.before f.others (omega (arith, q))
    ]
