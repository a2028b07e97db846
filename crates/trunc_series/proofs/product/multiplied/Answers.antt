use Rattle.std.proofs.Common.{sym, subst}
use Rattle.std.proofs.lemmas.Result.{IfOk-weaker}
use Rattle.scattering.specs.Series.{Sum}
use Rattle.trunc_series.specs.Shown.{sum_of}
use Rattle.trunc_series.specs.LowRows.{CanBeFactor}
use Rattle.trunc_series.proofs.RowProducts.{factor-cut, product-stands, product-sorted}
use Rattle.trunc_series.proofs.product.multiplied.Goals as goal

pub multiply_into-requires-clause-factor : goal.multiply_into-requires-clause-factor
multiply_into-requires-clause-factor c =
    subst (λ (f : Sum). CanBeFactor c.args.rule f) (sym c.in_ok-factor.ensures.terms)
    (factor-cut c.args.rule c.args.order (sum_of c.args.b.now) record { near = c.requires.right.near; keepable = c.requires.right.keepable })

pub returns : goal.returns
returns c =
    IfOk-weaker c.sorted.result _ _ (λ r h. product-sorted c.args.rule c.args.order (sum_of r.items) c.multiply_into.new.sum (sum_of c.args.a.now) (sum_of c.args.b.now)
    (product-stands c.args.rule c.args.order c.in_ok-factor.factor.order c.multiply_into.new.sum (sum_of c.args.a.now) (sum_of c.args.b.now) c.in_ok-factor.factor.terms c.in_ok-factor.ensures.order c.in_ok-factor.ensures.terms c.in_ok-multiply_into.ensures) h) c.sorted.ensures
