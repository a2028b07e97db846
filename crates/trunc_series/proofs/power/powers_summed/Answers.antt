use Rattle.std.proofs.Common.{◌+◌, arith}
use Rattle.scattering.specs.Series.{pow}
use Rattle.trunc_series.specs.Shown.{sum_of}
use Rattle.trunc_series.specs.Reduced.{IsKeptAs}
use Rattle.trunc_series.proofs.Merging.{whole}
use Rattle.trunc_series.proofs.PowerLaws.{near-factor, pow-more, sum-more}
use Rattle.trunc_series.proofs.PowersNear.{tame-powers}
use Rattle.trunc_series.proofs.power.powers_summed.Goals as goal

pub multiplied-requires-clause-right : goal.multiplied-requires-clause-right
multiplied-requires-clause-right c =
    rw c.as_slice.ensures.value
    (near-factor c.args.rule c.args.order (sum_of c.loop-i.power.items) (pow c.args.order (sum_of c.args.g.now) c.loop-i.i) c.loop-i.invariant.power (tame-powers c.args.order (sum_of c.args.g.now) c.loop-i.i c.requires.order c.requires.tame c.loop-i.i (omega arith)))

pub merged-requires-clause-left : goal.merged-requires-clause-left
merged-requires-clause-left c = rw c.as_slice-in-loop-i.ensures.value (whole c.args.rule _ c.loop-i.invariant.total.keeps)

pub merged-requires-clause-right : goal.merged-requires-clause-right
merged-requires-clause-right c = rw c.as_slice-in-loop-i-2.ensures.value (whole c.args.rule _ c.in_ok-power-2.ensures.keeps)

pub loop-i-preserved : goal.loop-i-preserved
loop-i-preserved c =
    let power : IsKeptAs c.args.rule c.args.order (sum_of c.in_ok-power-2.power.items) (pow c.args.order (sum_of c.args.g.now) (c.loop-i.i + 1)) =
    pow-more c.args.rule c.args.order (sum_of c.args.g.now) c.requires.reduced.keepable c.loop-i.i (sum_of c.args.g.now) (sum_of c.loop-i.power.items) (sum_of c.in_ok-power-2.power.items) c.requires.reduced c.loop-i.invariant.power
    (rw c.as_slice.ensures.value at c.in_ok-power-2.ensures) in
    record {
      power = power;
      total =
          sum-more c.args.rule c.args.order (sum_of c.args.g.now) c.requires.reduced.keepable c.loop-i.i (sum_of c.loop-i.total.items) (sum_of c.in_ok-power-2.power.items) _ c.loop-i.invariant.total power
          (rw (c.as_slice-in-loop-i.ensures.value, c.as_slice-in-loop-i-2.ensures.value) at c.in_ok-total-2.ensures);
    }
