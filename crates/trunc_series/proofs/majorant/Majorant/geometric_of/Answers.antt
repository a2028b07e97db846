use Rattle.std.specs.Prelude.{not}
use Rattle.scattering.specs.Series.{key_eq, unit, rest, absolute, geometric}
use Rattle.trunc_series.specs.declared.arithmetic.Arithmetic.TheVariants.{Saturating}
use Rattle.trunc_series.specs.Shown.{sum_of}
use Rattle.trunc_series.specs.Reduced.{absolute_sum}
use Rattle.trunc_series.proofs.Majorants.{MadeMajorant, made-majorant, absolute-reduced, absolute-tame}
use Rattle.trunc_series.proofs.Terms.{sum_of-where}
use Rattle.trunc_series.proofs.PowerLaws.{rest-tame}
use Rattle.trunc_series.proofs.Inverses.{own-reduced, powers-reduced, rest-valid, tame-filter}
use Rattle.trunc_series.proofs.majorant.Majorant.geometric_of.Goals as goal

pub powers_summed-requires-clause-reduced : goal.powers_summed-requires-clause-reduced
powers_summed-requires-clause-reduced c =
    rw (c.order.ensures.value, c.as_slice-2.ensures.value, c.in_ok-others-2.ensures, c.as_slice.ensures.value, c.in_ok-others.ensures, sum_of-where (λ t. not (key_eq t.0 unit)) c.terms.result.now, c.terms.ensures.terms)
    (own-reduced Saturating c.args.f.now.order (absolute_sum (rest c.args.f.now.terms)) _ (absolute-reduced c.args.f.now.order (rest c.args.f.now.terms) (rest-valid c.args.f.now.order c.args.f.now.terms c.terms.ensures.valid)))

pub powers_summed-requires-clause-tame : goal.powers_summed-requires-clause-tame
powers_summed-requires-clause-tame c =
    rw (c.as_slice-2.ensures.value, c.in_ok-others-2.ensures, c.as_slice.ensures.value, c.in_ok-others.ensures, sum_of-where (λ t. not (key_eq t.0 unit)) c.terms.result.now, c.terms.ensures.terms)
    (absolute-tame (rest c.args.f.now.terms) (tame-filter (λ t. not (key_eq t.0 unit)) c.args.f.now.terms (rest-tame c.args.f.now.terms c.requires.near c.requires.others)))

pub invariant_of-result : goal.invariant_of-result
invariant_of-result c =
    rw c.order-2.ensures.value
    (made-majorant c.args.f.now.order (sum_of c.in_ok-terms.terms.items) (geometric c.args.f.now.order c.args.f.now.terms) c.terms.ensures.valid.order
    (powers-reduced Saturating c.args.f.now.order (absolute_sum (rest c.args.f.now.terms)) (absolute (rest c.args.f.now.terms)) (absolute-reduced c.args.f.now.order (rest c.args.f.now.terms) (rest-valid c.args.f.now.order c.args.f.now.terms c.terms.ensures.valid)) c.args.f.now.order (sum_of c.in_ok-terms.terms.items)
    (rw (c.order.ensures.value, c.as_slice-2.ensures.value, c.in_ok-others-2.ensures, c.as_slice.ensures.value, c.in_ok-others.ensures, sum_of-where (λ t. not (key_eq t.0 unit)) c.terms.result.now, c.terms.ensures.terms) at c.in_ok-terms.ensures))).0

pub returns : goal.returns
returns c =
    let made : MadeMajorant c.args.f.now.order (sum_of c.in_ok-terms.terms.items) (geometric c.args.f.now.order c.args.f.now.terms) =
    (made-majorant c.args.f.now.order (sum_of c.in_ok-terms.terms.items) (geometric c.args.f.now.order c.args.f.now.terms) c.terms.ensures.valid.order
    (powers-reduced Saturating c.args.f.now.order (absolute_sum (rest c.args.f.now.terms)) (absolute (rest c.args.f.now.terms)) (absolute-reduced c.args.f.now.order (rest c.args.f.now.terms) (rest-valid c.args.f.now.order c.args.f.now.terms c.terms.ensures.valid)) c.args.f.now.order (sum_of c.in_ok-terms.terms.items)
    (rw (c.order.ensures.value, c.as_slice-2.ensures.value, c.in_ok-others-2.ensures, c.as_slice.ensures.value, c.in_ok-others.ensures, sum_of-where (λ t. not (key_eq t.0 unit)) c.terms.result.now, c.terms.ensures.terms) at c.in_ok-terms.ensures))) in
    record { order = c.order-2.ensures.value; series = made.0.series; capped = made.1 }
