use Rattle.std.proofs.Common.{◌+◌, arith, rules, FitsSigned}
use Rattle.std.specs.Int.{w128}
use Rattle.std.proofs.lemmas.Int.{to_z-of_z}
use Rattle.scattering.specs.Series.{pow}
use Rattle.trunc_series.specs.declared.arithmetic.Arithmetic.TheVariants.{Wrapping}
use Rattle.trunc_series.specs.Shown.{sum_of}
use Rattle.trunc_series.specs.Reduced.{IsKeptAs}
use Rattle.trunc_series.proofs.Merging.{whole}
use Rattle.trunc_series.proofs.PowerLaws.{near-factor, pow-more}
use Rattle.trunc_series.proofs.PowersNear.{tame-powers}
use Rattle.vertex_lie.proofs.Logarithms.{log-more}
use Rattle.vertex_lie.proofs.logarithm.scaled_sum.Goals as goal

pub multiplied-requires-clause-right : goal.multiplied-requires-clause-right
multiplied-requires-clause-right c =
    rw c.as_slice.ensures.value
    (near-factor Wrapping c.args.order (sum_of c.loop-i.power.items) (pow c.args.order (sum_of c.args.g.now) c.loop-i.i) c.loop-i.invariant.power (tame-powers c.args.order (sum_of c.args.g.now) c.loop-i.i c.requires.order c.requires.tame c.loop-i.i (omega arith)))

pub multiplied-requires-in-loop-i-clause-right : goal.multiplied-requires-in-loop-i-clause-right
multiplied-requires-in-loop-i-clause-right c =
    let power : IsKeptAs Wrapping c.args.order (sum_of c.in_ok-power-2.power.items) (pow c.args.order (sum_of c.args.g.now) (c.loop-i.i + 1)) =
    pow-more Wrapping c.args.order (sum_of c.args.g.now) c.requires.reduced.keepable c.loop-i.i (sum_of c.args.g.now) (sum_of c.loop-i.power.items) (sum_of c.in_ok-power-2.power.items) c.requires.reduced c.loop-i.invariant.power
    (rw c.as_slice.ensures.value at c.in_ok-power-2.ensures) in
    rw c.as_slice-in-loop-i.ensures.value
    (near-factor Wrapping c.args.order (sum_of c.in_ok-power-2.power.items) (pow c.args.order (sum_of c.args.g.now) (c.loop-i.i + 1)) power (tame-powers c.args.order (sum_of c.args.g.now) (c.loop-i.i + 1) c.requires.order c.requires.tame (c.loop-i.i + 1) (omega arith)))

pub merged-requires-clause-left : goal.merged-requires-clause-left
merged-requires-clause-left c = rw c.as_slice-in-loop-i-2.ensures.value (whole Wrapping _ c.loop-i.invariant.total.keeps)

pub merged-requires-clause-right : goal.merged-requires-clause-right
merged-requires-clause-right c = rw c.as_slice-in-loop-i-3.ensures.value (whole Wrapping _ c.in_ok-part.ensures.keeps)

pub loop-i-preserved : goal.loop-i-preserved
loop-i-preserved c =
    let power : IsKeptAs Wrapping c.args.order (sum_of c.in_ok-power-2.power.items) (pow c.args.order (sum_of c.args.g.now) (c.loop-i.i + 1)) =
    pow-more Wrapping c.args.order (sum_of c.args.g.now) c.requires.reduced.keepable c.loop-i.i (sum_of c.args.g.now) (sum_of c.loop-i.power.items) (sum_of c.in_ok-power-2.power.items) c.requires.reduced c.loop-i.invariant.power
    (rw c.as_slice.ensures.value at c.in_ok-power-2.ensures) in
    let f : FitsSigned w128 c.factor.result = search rules in
    record {
      power = power;
      total =
          log-more c.args.order (sum_of c.args.g.now) c.loop-i.i c.factor.result (sum_of c.loop-i.total.items) (sum_of c.in_ok-power-2.power.items) (sum_of c.in_ok-part.part.items) _ c.factor.ensures.value c.factor.ensures.nonzero c.factor.ensures.small c.loop-i.invariant.total power
          (rw (to_z-of_z w128 c.factor.result f, c.as_slice-in-loop-i.ensures.value) at c.in_ok-part.ensures)
          (rw (c.as_slice-in-loop-i-2.ensures.value, c.as_slice-in-loop-i-3.ensures.value) at c.in_ok-total.ensures);
    }
