use Rattle.std.proofs.Common.{◌≡◌, ◌+◌, arith}
use Rattle.weight_bounds.specs.Rows.{sum_below}
use Rattle.weight_bounds.proofs.Rows.{bound-less}
use Rattle.weight_bounds.proofs.Totals.{sum-next, sum-at}
use Rattle.weight_bounds.proofs.bound.total.Goals as goal

pub loop-i-preserved : goal.loop-i-preserved
loop-i-preserved c v h =
    let e = sum-next c.loop-i.i v in
    bound-less c.sum-total.result (sum_below c.loop-i.i v + v c.loop-i.i) _ (omega (arith, e)) (c.sum-total.ensures (sum_below c.loop-i.i v) (v c.loop-i.i) (c.loop-i.invariant v h) (h c.loop-i.i (omega arith)))

pub returns : goal.returns
returns c v h =
    let e : c.loop-i.i ≡ c.args.order + 1 = omega arith in
    let s = sum-at c.loop-i.i (c.args.order + 1) v e in
    bound-less c.loop-i.total (sum_below c.loop-i.i v) _ (omega (arith, s)) (c.loop-i.invariant v h)
