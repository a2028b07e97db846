use Rattle.std.proofs.Common.{ℕ, subst, sym, ap, ◌∙◌}
use Rattle.scattering.specs.Collections.{Every}
use Rattle.scattering.specs.Series.{Sum, absolute}
use Rattle.trunc_series.specs.declared.arithmetic.Arithmetic.TheVariants.{Wrapping}
use Rattle.trunc_series.specs.Reduced.{IsKeptAs}
use Rattle.trunc_series.specs.Shown.{Seen, sum_of, IsTerm, IsValid, IsSeriesOf}
use Rattle.local_product.specs.OneVariable.{in_one_variable}
use Rattle.local_product.proofs.OneVariableFunctions.{bound-terms, function-valid, function-series}
use Rattle.local_product.proofs.one_variable.function_in_one_variable.Goals as goal

pub collected-requires : goal.collected-requires
collected-requires c =
    subst (λ (n : ℕ). Every (IsTerm n) (sum_of c.as_slice.result.now)) (sym c.order-order.ensures.value)
    (subst (Every (IsTerm c.args.w.now.function.order)) (sym (ap sum_of c.as_slice.ensures.value ∙ c.in_ok-terms.ensures ∙ ap (λ f. in_one_variable (absolute f)) c.terms.ensures.terms))
    (bound-terms c.args.w.now.function.order c.args.w.now.function.terms c.terms.ensures.valid))

pub from_sorted-requires : goal.from_sorted-requires
from_sorted-requires c =
    let h = subst (λ (n : ℕ). IsKeptAs Wrapping n (sum_of c.in_ok-terms-2.terms.items) (in_one_variable (absolute c.args.w.now.function.terms))) c.order-order.ensures.value
    (subst (λ (f : Sum). IsKeptAs Wrapping c.order-order.result (sum_of c.in_ok-terms-2.terms.items) f) (ap sum_of c.as_slice.ensures.value ∙ c.in_ok-terms.ensures ∙ ap (λ f. in_one_variable (absolute f)) c.terms.ensures.terms) c.in_ok-terms-2.ensures) in
    subst (λ (n : ℕ). IsValid n (sum_of c.in_ok-terms-2.terms.items)) (sym c.order-order.ensures.value) (function-valid c.args.w.now (sum_of c.in_ok-terms-2.terms.items) h c.terms.ensures.valid.order)

pub returns-clause-series : goal.returns-clause-series
returns-clause-series c =
    let h = subst (λ (n : ℕ). IsKeptAs Wrapping n (sum_of c.in_ok-terms-2.terms.items) (in_one_variable (absolute c.args.w.now.function.terms))) c.order-order.ensures.value
    (subst (λ (f : Sum). IsKeptAs Wrapping c.order-order.result (sum_of c.in_ok-terms-2.terms.items) f) (ap sum_of c.as_slice.ensures.value ∙ c.in_ok-terms.ensures ∙ ap (λ f. in_one_variable (absolute f)) c.terms.ensures.terms) c.in_ok-terms-2.ensures) in
    let o = c.from_sorted.ensures.order ∙ c.order-order.ensures.value in
    let t = c.from_sorted.ensures.terms in
    subst (λ (s : Seen). IsSeriesOf s c.args.w.now.function.order (in_one_variable (absolute c.args.w.now.function.terms))) (λ i. record { order = sym o i; terms = sym t i }) (function-series c.args.w.now (sum_of c.in_ok-terms-2.terms.items) h)
