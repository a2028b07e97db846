use Rattle.std.proofs.Common.{◌<◌, ◌+◌, ◌*◌, length, arith}
use Rattle.weight_bounds.proofs.Rows.{adds-more, adds-above}
use Rattle.weight_bounds.proofs.numbers.add_times.Goals as goal

pub loop-i-preserved : goal.loop-i-preserved
loop-i-preserved c =
    let l : c.args.by + c.loop-i.i < length c.loop-i.target = omega arith in
    record {
      adds =
          adds-more c.args.by c.args.from c.loop-i.i c.sum.result c.args.c c.args.target.now c.loop-i.target c.args.row.now l c.loop-i.auto.i c.loop-i.invariant.adds c.loop-i.invariant.above
          (λ v m w a b d. c.sum.ensures v (m * w) a (c.product.ensures m w b d));
      above = adds-above c.args.by c.loop-i.i c.sum.result c.args.target.now c.loop-i.target l c.loop-i.invariant.above;
    }

pub returns : goal.returns
returns c = record {
  added = λ j p q. c.loop-i.invariant.adds.added j p (omega (arith, q));
  below = c.loop-i.invariant.adds.below;
}
