use Rattle.std.proofs.Common.{◌∙◌, sym, refl}
use Rattle.vertex_lie.specs.Shown.{coefficient_of}
use Rattle.vertex_lie.proofs.PairProducts.{one-kept}
use Rattle.vertex_lie.proofs.Faults.{fit, value-of}
use Rattle.vertex_lie.specs.declared.fault.LieFault.TheVariants.{Range}
use Rattle.vertex_lie.proofs.bracket.push_product.Goals as goal

pub returns-clause-products : goal.returns-clause-products
returns-clause-products c =
    rw c.in_ok-push.ensures.items
    (one-kept c.args.order (coefficient_of c.args.t.now) (coefficient_of c.args.u.now) _ c.args.out.now.items _ (sym c.counts.ensures ∙ c.if-not-counts.false) refl c.times.ensures
    (value-of Range c.term_product.result c.in_ok-c.c _ (sym c.ok_or.ensures.value ∙ c.in_ok-c.was) c.term_product.ensures.value))

pub returns-clause-range : goal.returns-clause-range
returns-clause-range c k = fit Range c.term_product.result c.in_ok-c.c _ (sym c.ok_or.ensures.value ∙ c.in_ok-c.was) c.term_product.ensures.fits
