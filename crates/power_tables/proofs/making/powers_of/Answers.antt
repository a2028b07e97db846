use Rattle.std.proofs.Common.{rules, ◌≡◌, ◌+◌, List, ℕ, length, sym, subst, ap, ◌∙◌, arith}
use Rattle.scattering.specs.Series.{Sum, mul}
use Rattle.trunc_series.specs.Shown.{sum_of}
use Rattle.trunc_series.specs.Sums.{StandsFor}
use Rattle.trunc_series.specs.LowRows.{CanBeFactor}
use Rattle.trunc_series.proofs.TermLists.{keepable-values}
use Rattle.trunc_series.proofs.RowProducts.{factor-cut, product-stands}
use Rattle.power_tables.specs.Made.{TermVec, IsPower, ArePowersFrom}
use Rattle.power_tables.proofs.ColumnLists.{length-push}
use Rattle.power_tables.proofs.Powers.{no-power, others-near, power-near, power-next, powers-push}
use Rattle.power_tables.proofs.making.powers_of.Goals as goal

pub loop-i-init : goal.loop-i-init
loop-i-init c = record {
  each = subst (λ (ps : List TermVec). ArePowersFrom c.args.rule c.args.order (sum_of c.args.u.now) 1 ps) (sym c.new-powers.ensures.items) tt;
  last = subst (λ (p : Sum). IsPower c.args.rule c.args.order (sum_of c.args.u.now) 0 p) (sym c.in_ok-last.ensures) (no-power c.args.rule c.args.order c.args.m (sum_of c.args.u.now) c.requires.others);
  count = search rules;
}

pub multiply_into-requires-clause-terms : goal.multiply_into-requires-clause-terms
multiply_into-requires-clause-terms c =
    rw c.as_slice.ensures.value
    record {
      near = power-near c.args.rule c.args.order c.args.m (sum_of c.args.u.now) c.requires.others c.loop-i.i (sum_of c.loop-i.last.items) c.requires.order c.loop-i.invariant.last;
      keepable = keepable-values c.args.rule (sum_of c.loop-i.last.items) c.loop-i.invariant.last.values;
    }

pub multiply_into-requires-clause-low : goal.multiply_into-requires-clause-low
multiply_into-requires-clause-low c = rw (c.as_slice.ensures.value, c.in_ok-lows.ensures.order) c.loop-i.invariant.last.low

pub multiply_into-requires-clause-factor : goal.multiply_into-requires-clause-factor
multiply_into-requires-clause-factor c =
    subst (λ (f : Sum). CanBeFactor c.args.rule f) (sym c.in_ok-lows.ensures.terms)
    (factor-cut c.args.rule c.args.order (sum_of c.args.u.now)
    record { near = others-near c.args.rule c.args.order c.args.m (sum_of c.args.u.now) c.requires.others; keepable = c.requires.others.reduced.keepable })

pub loop-i-preserved : goal.loop-i-preserved
loop-i-preserved c =
    let s : StandsFor c.args.rule c.multiply_into.new.sum (mul c.args.order (sum_of c.loop-i.last.items) (sum_of c.args.u.now)) =
    product-stands c.args.rule c.args.order c.in_ok-lows.lows.order c.multiply_into.new.sum (sum_of c.loop-i.last.items) (sum_of c.args.u.now) c.in_ok-lows.lows.terms c.in_ok-lows.ensures.order c.in_ok-lows.ensures.terms
    (rw c.as_slice.ensures.value at c.in_ok-multiply_into.ensures) in
    let n : IsPower c.args.rule c.args.order (sum_of c.args.u.now) (c.loop-i.i + 1) c.multiply_into.new.sum =
    power-next c.args.rule c.args.order c.args.m (sum_of c.args.u.now) c.requires.others c.loop-i.i (sum_of c.loop-i.last.items) c.multiply_into.new.sum c.loop-i.invariant.last s in
    let i = c.loop-i.invariant.count in
    let e : c.loop-i.i + 1 ≡ 1 + length c.loop-i.powers.items = omega (arith, i) in
    let w : sum_of c.in_ok-from_slice.field-0.items ≡ c.multiply_into.new.sum = ap sum_of c.in_ok-from_slice.ensures.items ∙ c.terms-in-loop-i.ensures in
    record {
      each =
          subst (λ (ps : List TermVec). ArePowersFrom c.args.rule c.args.order (sum_of c.args.u.now) 1 ps) (sym c.in_ok-push.ensures.items)
          (powers-push c.args.rule c.args.order (sum_of c.args.u.now) 1 c.loop-i.powers.items c.in_ok-from_slice.field-0 c.loop-i.invariant.each
          (subst (λ (p : Sum). IsPower c.args.rule c.args.order (sum_of c.args.u.now) (1 + length c.loop-i.powers.items) p) (sym w)
          (subst (λ (j : ℕ). IsPower c.args.rule c.args.order (sum_of c.args.u.now) j c.multiply_into.new.sum) e n)));
      last = subst (λ (p : Sum). IsPower c.args.rule c.args.order (sum_of c.args.u.now) (c.loop-i.i + 1) p) (sym (ap sum_of c.in_ok-last-2.ensures.items ∙ c.terms.ensures)) n;
      count = (let p = ap length c.in_ok-push.ensures.items ∙ length-push c.loop-i.powers.items c.in_ok-from_slice.field-0 in omega (arith, p, i));
    }
